-- Statements in order.
use Rattle.sc_emit_relation.proofs.Common.{Break, Codes, Comes, Continue, Ends, Exit, ExitGives, Follows, Gives, Goes}
use Rattle.sc_emit_relation.proofs.Common.{IsClear, Joint, Left, List, Lives, Next, None, Overflows, Piece, Reached}
use Rattle.sc_emit_relation.proofs.Common.{Ready, Return, Running, Setting, StandsAt, Starts, State as Meant, Stopped}
use Rattle.sc_emit_relation.proofs.Common.{Temps, Trail, [], all_do, ap, ap₂, arith, ends_of, follow, follow_goes}
use Rattle.sc_emit_relation.proofs.Common.{followed, in_order as in_turn, inl, inr, length, length-append, live_before}
use Rattle.sc_emit_relation.proofs.Common.{low_after, nothing, refl, row, row_points, seen_from, stays, subst, sym}
use Rattle.sc_emit_relation.proofs.Common.{take, then_from, ℕ, ⊎_elim, ◌*◌, ◌+◌, ◌∙◌, ◌∷◌, ◌≡◌}
use Rattle.sc_emit_select.specs.Prelude.{Piece as Code}
use Rattle.sc_emit_relation.proofs.Clear.{all_prefix, all_back}
use Rattle.sc_emit_relation.proofs.Lines.{InParts, in_parts, low_append}
use Rattle.sc_emit_relation.proofs.Stretches.{leads_none, emits_less, overflows_with, comes_after, arrives_with}
use Rattle.sc_emit_relation.proofs.Stretches.{returns_with}

module _ (T : Setting) (R : Running) where
  -- no statement
  pub nothing_follows : Follows T R (all_do []) nothing (row [])
  nothing_follows = record {
    sized = λ b c. refl;
    closed = λ b c. refl;
    goes = λ temps. stays (record { exit = Next; carried = temps });
    runs = λ lives temps x left b c starts. inl (record {
      y = x;
      meant_is = refl;
      pc_is = omega arith;
      leads = leads_none T (seen_from R.activation) x (0 + left) left (omega arith);
      ready = starts.ready;
    });
  }

  -- a statement, and those after it
  module _ (one rest : Codes) (first second : Code) (trail : Trail) (trails : List Trail)
      (F : Follows T R one first trail) (S : Follows T R rest second (row trails)) where
    abbrev whole : Code
    whole = followed first second

    abbrev inner : Lives → Lives
    inner lives = record lives { following = live_before trails lives }

    -- the parts of the code
    parts : (pc b c : ℕ) → StandsAt T R pc whole b c →
        InParts (T.addresses R.activation.here.comp) T.image R.activation.here.comp pc
        (first.lines (second.size + b) (second.size + c)) (second.lines b c)
    parts pc b c code =
        in_parts (T.addresses R.activation.here.comp) T.image R.activation.here.comp pc
        (first.lines (second.size + b) (second.size + c)) (second.lines b c)
        (F.closed (second.size + b) (second.size + c)) code

    module _ (lives : Lives) (temps : Temps) (x : Joint) (left b c : ℕ)
        (starts : Starts T R whole (row (trail ∷ trails)) lives temps x b c) where
      abbrev ends : Ends
      ends = ends_of whole x.pc left b c

      -- the first statement's, seen from the whole
      abbrev first_ends : Ends
      first_ends = ends_of first x.pc (second.size + left) (second.size + b) (second.size + c)

      code_parts : InParts (T.addresses R.activation.here.comp) T.image R.activation.here.comp x.pc
          (first.lines (second.size + b) (second.size + c)) (second.lines b c)
      code_parts = parts x.pc b c starts.stands

      starts_first : Starts T R first trail (inner lives) temps x (second.size + b) (second.size + c)
      starts_first = record {
        ready = starts.ready;
        clear = all_prefix (IsClear R.places) (trail.points (inner lives)) (row_points trails lives) starts.clear;
        stands = code_parts.prefix;
        breaks = omega (arith, starts.breaks);
        continues = omega (arith, starts.continues);
      }

      -- where the second stands
      starts_second : (s : Meant) (temps : Temps) (y : Joint) → y.pc ≡ x.pc + 4 * first.size →
          Ready T R (live_before trails lives) temps y → Starts T R second (row trails) lives temps y b c
      starts_second s temps y at ready =
          let place : x.pc + 4 * length (first.lines (second.size + b) (second.size + c)) ≡ y.pc =
          ap (λ n. x.pc + 4 * n) (F.sized (second.size + b) (second.size + c)) ∙ sym at in
          record {
            ready = ready;
            clear = all_back (IsClear R.places) (trail.points (inner lives)) (row_points trails lives) starts.clear;
            stands = subst (λ pc. StandsAt T R pc second b c) place code_parts.back;
            breaks = omega (arith, starts.breaks, at);
            continues = omega (arith, starts.continues, at);
          }

      same_ends : (y : Joint) → y.pc ≡ x.pc + 4 * first.size → ends_of second y.pc left b c ≡ ends
      same_ends y at =
          let e1 : y.pc + 4 * second.size ≡ x.pc + 4 * (first.size + second.size) = omega (arith, at) in
          let e2 : y.pc + 4 * (second.size + b) ≡ x.pc + 4 * (first.size + second.size + b) = omega (arith, at) in
          let e3 : y.pc + 4 * (second.size + c) ≡ x.pc + 4 * (first.size + second.size + c) = omega (arith, at) in
          rw (e1, e2, e3) refl

      onwards : (exit : Exit) (temps' : Temps) (s : Meant) →
          ExitGives T R (inner lives) x (first.size + (second.size + left)) first_ends exit temps' s →
          Comes T R lives x (whole.size + left) ends (take (in_turn exit) rest temps' s)
      onwards Next temps' s g =
          let budget : first.size + (second.size + left) ≡ first.size + second.size + left = omega arith in
          subst (λ n. Comes T R lives x n ends (rest temps' s)) budget
          (subst (λ s. Comes T R lives x (first.size + (second.size + left)) ends (rest temps' s)) g.meant_is
          (comes_after T R lives x g.y (first.size + (second.size + left)) (second.size + left) ends
          (rest temps' g.y.meant) starts.ready.settled g.leads
          (subst (λ ends. Comes T R lives g.y (second.size + left) ends (rest temps' g.y.meant))
          (same_ends g.y g.pc_is)
          (S.runs lives temps' g.y left b c (starts_second s temps' g.y g.pc_is g.ready)))))
      onwards Break temps' s g =
          inl (arrives_with T R lives.broken x (first.size + (second.size + left)) (whole.size + left)
          (second.size + left) left temps' s first_ends.broken ends.broken (omega arith) (omega arith) (omega arith) g)
      onwards Continue temps' s g =
          inl (arrives_with T R lives.continued x (first.size + (second.size + left)) (whole.size + left)
          (second.size + left) left temps' s first_ends.continued ends.continued (omega arith) (omega arith)
          (omega arith) g)
      onwards (Return v) temps' s g =
          inl (returns_with T R x (first.size + (second.size + left)) (whole.size + left) v s (omega arith) g)

      after_first : (piece : Piece (Left Temps)) →
          Gives T R (inner lives) x (first.size + (second.size + left)) first_ends piece →
          Comes T R lives x (whole.size + left) ends (follow in_turn piece rest)
      after_first (Reached l s) g = onwards l.exit l.carried s g
      after_first (Stopped end s) g =
          inl (emits_less T (seen_from R.activation) x (first.size + (second.size + left)) (whole.size + left) s
          (omega arith) g)

      overflow_first : (piece : Piece (Left Temps)) →
          Overflows T (seen_from R.activation) x (first.size + (second.size + left)) piece →
          Overflows T (seen_from R.activation) x (whole.size + left) (follow in_turn piece rest)
      overflow_first piece o =
          overflows_with T (seen_from R.activation) x (first.size + (second.size + left)) (whole.size + left) piece
          (follow in_turn piece rest) (omega arith)
          (then_from piece (λ l. take (in_turn l.exit) rest l.carried) (λ l. taken l.exit l.carried)) o
        where
          taken : (exit : Exit) (temps : Temps) → Goes (take (in_turn exit) rest temps)
          taken Next temps = S.goes temps
          taken Break temps = stays (record { exit = Break; carried = temps })
          taken Continue temps = stays (record { exit = Continue; carried = temps })
          taken (Return v) temps = stays (record { exit = Return v; carried = temps })

      whole_runs : Comes T R lives x (whole.size + left) ends (follow in_turn (one temps x.meant) rest)
      whole_runs =
          ⊎_elim (λ g. after_first (one temps x.meant) g) (λ o. inr (overflow_first (one temps x.meant) o))
          (F.runs (inner lives) temps x (second.size + left) (second.size + b) (second.size + c) starts_first)

    pub row_follows : Follows T R (λ temps s. follow in_turn (one temps s) rest) whole (row (trail ∷ trails))
    row_follows = record {
      sized = λ b c.
          length-append (first.lines (second.size + b) (second.size + c)) (second.lines b c) ∙
          ap₂ (λ m n. m + n) (F.sized (second.size + b) (second.size + c)) (S.sized b c);
      closed = λ b c.
          low_append (T.addresses R.activation.here.comp) None (first.lines (second.size + b) (second.size + c))
          (second.lines b c) ∙
          subst (λ low. low_after (T.addresses R.activation.here.comp) low (second.lines b c) ≡ None)
          (sym (F.closed (second.size + b) (second.size + c))) (S.closed b c);
      goes = λ temps s. follow_goes in_turn s (one temps s) rest (F.goes temps s) S.goes;
      runs = whole_runs;
    }
