-- Loops that end with their head, and that with its test.
use Rattle.sc_emit_relation.proofs.Common.{All, Arrives, Bool, Break, CodeAt, Codes, Comes, Continue, Emits, Ends, Exit}
use Rattle.sc_emit_relation.proofs.Common.{Fetches, Follows, Goes, Instr, IsClear, Jal, Joint, Left, Line, List, Lives}
use Rattle.sc_emit_relation.proofs.Common.{Next, None, Overflows, Piece, Reached, Ready, Return, Returns, Running}
use Rattle.sc_emit_relation.proofs.Common.{Setting, Settled, Some, Standpoint, StandsAt, State as Meant, Stopped}
use Rattle.sc_emit_relation.proofs.Common.{TempSet, Temps, Trail, [], ap, arith, branch_back, branch_reach, code_inside}
use Rattle.sc_emit_relation.proofs.Common.{completed, ends_of, false, first_scratch, follow, in_body, in_head, in_loop}
use Rattle.sc_emit_relation.proofs.Common.{inl, is_some, length, length-append, length-map, live_at_start, live_before}
use Rattle.sc_emit_relation.proofs.Common.{loop, loop_points, low_after, nat_lt, plain, plainly, pos, refl, rotated}
use Rattle.sc_emit_relation.proofs.Common.{rounds, row, row_points, seen_from, subst, suc, sym, take as onward, testing}
use Rattle.sc_emit_relation.proofs.Common.{trail_step, true, word_at, zero, ℕ, ⊎_elim, ◌*◌, ◌++◌, ◌+◌, ◌∙◌, ◌∷◌, ◌≡◌}
use Rattle.sc_emit_relation.proofs.Common.{◌≤◌, ◌⊎◌}
use Rattle.sc_emit_select.specs.Prelude.{Piece as Code, take}
use Rattle.sc_tac.specs.declared.stmt.TacStmt.TheOpen as tac
use Rattle.sc_emit_relation.proofs.Jumps.{over}
use Rattle.sc_emit_relation.proofs.Lines.{InParts, in_parts, low_append, low_plainly}
use Rattle.sc_emit_relation.proofs.Rounds.{Round, past_head, clear_head, head_live, head_overflows, ready_less}
use Rattle.sc_emit_relation.proofs.Rounds.{rounds_goes, turned}
use Rattle.sc_emit_relation.proofs.Stretches.{arrives_with, comes_after, emits_here}
use Rattle.sc_emit_relation.proofs.Running.{IsRunning}

module _ (T : Setting) (R : Running) where
  -- the code comes to this place, and a step of it isn't paid for by turns that are over
  pub record ArrivesLate (live : ℕ → Bool) (x : Joint) (budget left : ℕ) (temps : Temps) (meant : Meant) (pc : ℕ) :
      Type 0 where
    pub arrives : Arrives T R live x budget left temps meant pc
    pub spare : suc x.meant.turns ≤ arrives.y.meant.turns + arrives.leads.steps

  -- what comes of a head that ends with its test: the body, with a step to spare for its turn, or the end of the loop
  abbrev pub TestGives : Lives → Joint → (budget : ℕ) → Ends → Exit → Temps → Meant → Type 0
  TestGives lives x budget ends Next temps s = ArrivesLate lives.following x budget ends.left temps s ends.following
  TestGives lives x budget ends Break temps s = Arrives T R lives.broken x budget ends.left temps s ends.broken
  TestGives lives x budget ends Continue temps s = ArrivesLate lives.continued x budget ends.left temps s ends.continued
  TestGives lives x budget ends (Return v) temps s = Returns T R x budget v s

  abbrev pub HeadGives : Lives → Joint → (budget : ℕ) → Ends → Piece (Left Temps) → Type 0
  HeadGives lives x budget ends (Reached l s) = TestGives lives x budget ends l.exit l.carried s
  HeadGives lives x budget ends (Stopped end s) = Emits T (seen_from R.activation) x budget s

  abbrev pub HeadComes : Lives → Joint → (budget : ℕ) → Ends → Piece (Left Temps) → Type 0
  HeadComes lives x budget ends piece =
      HeadGives lives x budget ends piece ⊎ Overflows T (seen_from R.activation) x budget piece

  -- A head that ends with its test: the code of what stands before it, then the test, which leads back to the body over
  -- `body_lines` lines of the body and of what follows it.
  module _ (cond : ℕ) (head : Codes) (i : Code) (hs : List Trail) (body_lines : ℕ) where
    abbrev test_size : ℕ
    test_size = suc (length (take R.activation.frame R.places first_scratch cond))

    abbrev head_lines : List Line
    head_lines =
        i.lines test_size 0 ++ testing R.activation.frame R.places cond (body_lines + i.size)

    pub record HeadFollows : Type 0 where
      pub sized : length (i.lines test_size 0) ≡ i.size
      pub closed : low_after (T.addresses R.activation.here.comp) None (i.lines test_size 0) ≡ None
      pub goes : (temps : Temps) → Goes (head temps)
      pub runs : (lives : Lives) (temps : Temps) (x : Joint) (left body_pc : ℕ) →
          Ready T R (live_before hs lives) temps x → All (IsClear R.places) (row_points hs lives) →
          CodeAt T.image R.activation.here.comp x.pc
          (completed (T.addresses R.activation.here.comp) x.pc None head_lines) →
          x.pc ≡ body_pc + 4 * body_lines →
          -- an instruction stands where the body begins
          (w : ℕ) → word_at T.image R.activation.here.comp body_pc ≡ Some w →
          x.pc + 4 * (i.size + test_size) ≤ R.last →
          HeadComes lives x (i.size + (test_size + left)) (record {
            left = left;
            following = body_pc;
            broken = x.pc + 4 * (i.size + test_size);
            continued = body_pc;
          }) (head temps x.meant)

module _ {T : Setting} {R : Running} (valid : IsRunning T R) (cond : ℕ)
    (head body next : Codes) (i b n : Code) (hs bs ns : List Trail)
    (H : HeadFollows T R cond head i hs (b.size + n.size)) (B : Follows T R body b (row bs))
    (N : Follows T R next n (row ns)) where
  abbrev whole : Code
  whole = rotated R.activation.frame R.places cond i b n

  abbrev P : Standpoint
  P = seen_from R.activation

  abbrev comp : ℕ
  comp = R.activation.here.comp

  abbrev test : ℕ
  test = suc (length (take R.activation.frame R.places first_scratch cond))

  abbrev next_pc : ℕ → ℕ
  next_pc L = L + 4 + 4 * b.size

  abbrev head_pc : ℕ → ℕ
  head_pc L = next_pc L + 4 * n.size

  abbrev test_lines : ℕ → List Line
  test_lines lines = testing R.activation.frame R.places cond lines

  -- the code's parts
  record Parts (L : ℕ) : Type 0 where
    first : Fetches T.image comp L (Jal 0 (pos (4 * suc (b.size + n.size))))
    of_body : StandsAt T R (L + 4) b (n.size + (i.size + test)) 0
    of_next : StandsAt T R (next_pc L) n (i.size + test) 0
    of_head : CodeAt T.image comp (head_pc L)
        (completed (T.addresses comp) (head_pc L) None (i.lines test 0 ++ test_lines (b.size + n.size + i.size)))

  parts : (L to_break to_continue : ℕ) → StandsAt T R L whole to_break to_continue → Parts L
  parts L to_break to_continue code =
      let addresses = T.addresses comp in
      let bl : List Line = b.lines (n.size + (i.size + test)) 0 in
      let nl : List Line = n.lines (i.size + test) 0 in
      let il : List Line = i.lines test 0 in
      let tl : List Line = test_lines (b.size + (n.size + i.size)) in
      let one : InParts addresses T.image comp (L + 4) bl (nl ++ (il ++ tl)) =
      in_parts addresses T.image comp (L + 4) bl (nl ++ (il ++ tl)) (B.closed (n.size + (i.size + test)) 0) code.1 in
      let e1 : L + 4 + 4 * length bl ≡ next_pc L = ap (λ k. L + 4 + 4 * k) (B.sized (n.size + (i.size + test)) 0) in
      let two : InParts addresses T.image comp (L + 4 + 4 * length bl) nl (il ++ tl) =
      in_parts addresses T.image comp (L + 4 + 4 * length bl) nl (il ++ tl) (N.closed (i.size + test) 0) one.back in
      let e2 : L + 4 + 4 * length bl + 4 * length nl ≡ head_pc L = omega (arith, e1, N.sized (i.size + test) 0) in
      let e3 : b.size + (n.size + i.size) ≡ b.size + n.size + i.size = omega arith in
      record {
        first = code.0;
        of_body = one.prefix;
        of_next = subst (λ pc. StandsAt T R pc n (i.size + test) 0) e1 two.prefix;
        of_head =
            subst (λ lines. CodeAt T.image comp (head_pc L) (completed addresses (head_pc L) None (il ++ test_lines
            lines))) e3
            (subst (λ pc. CodeAt T.image comp pc (completed addresses pc None (il ++ tl))) e2 two.back);
      }

  module _ (pays : whole.size ≤ T.turn_pays) (lives : Lives) (L left to_break to_continue : ℕ) (code : Parts L)
      (clear : All (IsClear R.places) (loop_points hs bs ns lives)) (breaks : L + 4 * (whole.size + to_break) ≤ R.last)
    where
      abbrev begin : TempSet
      begin = live_at_start hs bs ns lives

      abbrev ends : Ends
      ends = ends_of whole L left to_break to_continue

      abbrev Goal : Joint → ℕ → Piece (Left Temps) → Type 0
      Goal x budget piece = Comes T R lives x budget ends piece

      abbrev budget : ℕ
      budget = i.size + (test + left)

      -- a round after the head; after it the head follows
      abbrev round : Round T R b n ends
      round = record {
        body_pc = L + 4;
        body_break = n.size + (i.size + test);
        next_break = i.size + test;
        of_body = code.of_body;
        of_next = code.of_next;
        body_breaks = omega arith;
        next_breaks = omega arith;
        fits = omega (arith, breaks);
        turn_left = left;
        round_left = budget;
        pays = omega (arith, pays);
        enough = omega arith;
      }

      -- one more round, as it is known of fewer, from where the head begins
      abbrev Rounds : ℕ → Type 0
      Rounds k = (temps : Temps) (x : Joint) → Ready T R begin temps x → x.pc ≡ head_pc L →
          Goal x budget (rounds k head body next temps x.meant)

      abbrev head_ends : Ends
      head_ends = record { left = left; following = L + 4; broken = ends.following; continued = L + 4 }

      after_head : (k : ℕ) → Rounds k → (x : Joint) → Settled T P x → (piece : Piece (Left Temps)) →
          HeadGives T R (in_head hs bs ns lives) x budget head_ends piece →
          Goal x budget (follow in_loop piece (past_head head body next k))
      after_head k more x settled (Stopped end s) g = inl g
      after_head k more x settled (Reached l s) g = by l.exit g
        where
          on : ArrivesLate T R (live_before bs (in_body hs bs ns lives)) x budget left l.carried s (L + 4) →
              Goal x budget (past_head head body next k l.carried s)
          on g =
              subst (λ s. Goal x budget (past_head head body next k l.carried s)) g.arrives.meant_is
              (turned T R head body next b n hs bs ns H.goes B N lives clear ends round k more l.carried x g.arrives.y
              budget settled g.arrives.leads g.spare g.arrives.ready g.arrives.pc_is)

          by : (exit : Exit) → TestGives T R (in_head hs bs ns lives) x budget head_ends exit l.carried s →
              Goal x budget (onward (in_loop exit) (past_head head body next k) l.carried s)
          by Next g = on g
          by Continue g = on g
          by Break g = inl g
          by (Return v) g = inl g

      -- `k` rounds
      rounds_follow : (k : ℕ) → Rounds k
      rounds_follow zero temps x ready place = inl (emits_here T P x budget)
      rounds_follow (suc k) temps x ready place =
          let first = code_inside T.image valid.formed comp L code.first.word code.first.fetched in
          let there = valid.gapless L (L + 4) (ap is_some code.first.fetched) (omega arith) (omega (arith, breaks))
          (omega (arith, first.aligned)) in
          let e : x.pc + 4 * (i.size + test) ≡ ends.following = omega (arith, place) in
          let lines : List Line = i.lines test 0 ++ test_lines (b.size + n.size + i.size) in
          ⊎_elim
          (λ g. after_head k (rounds_follow k) x ready.settled (head temps x.meant)
          (subst (λ broken. HeadGives T R (in_head hs bs ns lives) x budget
          (record { left = left; following = L + 4; broken = broken; continued = L + 4 }) (head temps x.meant)) e g))
          (λ o. head_overflows T R head body next b n hs bs ns H.goes B N lives clear ends k x budget
          (head temps x.meant) o)
          (H.runs (in_head hs bs ns lives) temps x left (L + 4)
          (ready_less T R begin (live_before hs (in_head hs bs ns lives)) temps x (head_live hs bs ns lives) ready)
          (clear_head R.places hs bs ns lives clear)
          (subst (λ pc. CodeAt T.image comp pc (completed (T.addresses comp) pc None lines)) (sym place) code.of_head)
          (omega (arith, place)) there.0 there.1 (omega (arith, place, breaks)))

      -- the jump to the head
      loop_comes : (k : ℕ) (temps : Temps) (x : Joint) → Ready T R begin temps x → x.pc ≡ L →
          Goal x (whole.size + left) (rounds k head body next temps x.meant)
      loop_comes k temps x ready place =
          let jump : Fetches T.image comp x.pc (Jal 0 (pos (4 * suc (b.size + n.size)))) =
          subst (λ pc. Fetches T.image comp pc (Jal 0 (pos (4 * suc (b.size + n.size))))) (sym place) code.first in
          let g : Arrives T R begin x (whole.size + left) budget temps x.meant (head_pc L) =
          arrives_with T R begin x (suc budget) (whole.size + left) budget budget temps x.meant
          (x.pc + 4 * suc (b.size + n.size)) (head_pc L) (omega arith) (omega arith) (omega (arith, place))
          (over valid begin temps x (b.size + n.size) budget ready jump (omega (arith, place, breaks))) in
          subst (λ s. Goal x (whole.size + left) (rounds k head body next temps s)) g.meant_is
          (comes_after T R lives x g.y (whole.size + left) budget ends (rounds k head body next temps g.y.meant)
          ready.settled g.leads (rounds_follow k temps g.y g.ready g.pc_is))

  pub rotated_follows : whole.size ≤ T.turn_pays →
      Follows T R (loop head body next) whole (trail_step (tac.Loop hs bs ns))
  rotated_follows pays = record {
    sized = λ to_break to_continue.
        (let load : List Instr = take R.activation.frame R.places first_scratch cond in
        let branch : List Line =
        branch_back R.activation.frame R.places cond (b.size + (n.size + i.size) + length load) ∷ [] in
        let last : List Line = test_lines (b.size + (n.size + i.size)) in
        let following : List Line = i.lines test 0 ++ last in
        let middle : List Line = n.lines (i.size + test) 0 ++ following in
        omega (
          arith,
          length-append (b.lines (n.size + (i.size + test)) 0) middle,
          length-append (n.lines (i.size + test) 0) following,
          length-append (i.lines test 0) last,
          length-append (plainly load) branch,
          length-map load plain,
          B.sized (n.size + (i.size + test)) 0,
          N.sized (i.size + test) 0,
          H.sized,
        ));
    closed = λ to_break to_continue. closed_by;
    goes = λ temps s. rounds_goes head body next H.goes B.goes N.goes (suc s.turns) temps s;
    runs = λ lives temps x left to_break to_continue starts.
        loop_comes pays lives x.pc left to_break to_continue (parts x.pc to_break to_continue starts.stands)
        starts.clear starts.breaks (suc x.meant.turns) temps x starts.ready refl;
  }
    where
      branch_closed : (lines : ℕ) (near : Bool) → nat_lt lines branch_reach ≡ near →
          low_after (T.addresses comp) None (branch_back R.activation.frame R.places cond lines ∷ []) ≡ None
      branch_closed lines true e = rw e refl
      branch_closed lines false e = rw e refl

      test_closed : (lines : ℕ) → low_after (T.addresses comp) None (test_lines lines) ≡ None
      test_closed lines =
          let addresses = T.addresses comp in
          let load : List Instr = take R.activation.frame R.places first_scratch cond in
          let branch : List Line = branch_back R.activation.frame R.places cond (lines + length load) ∷ [] in
          low_append addresses None (plainly load) branch ∙
          ap (λ low. low_after addresses low branch) (low_plainly addresses load) ∙
          branch_closed (lines + length load) (nat_lt (lines + length load) branch_reach) refl

      closed_by : low_after (T.addresses comp) None (whole.lines 0 0) ≡ None
      closed_by =
          let addresses = T.addresses comp in
          let bl : List Line = b.lines (n.size + (i.size + test)) 0 in
          let nl : List Line = n.lines (i.size + test) 0 in
          let il : List Line = i.lines test 0 in
          let tl : List Line = test_lines (b.size + (n.size + i.size)) in
          low_append addresses None bl (nl ++ (il ++ tl)) ∙
          ap (λ low. low_after addresses low (nl ++ (il ++ tl))) (B.closed (n.size + (i.size + test)) 0) ∙
          low_append addresses None nl (il ++ tl) ∙
          ap (λ low. low_after addresses low (il ++ tl)) (N.closed (i.size + test) 0) ∙
          low_append addresses None il tl ∙ ap (λ low. low_after addresses low tl) H.closed ∙
          test_closed (b.size + (n.size + i.size))
