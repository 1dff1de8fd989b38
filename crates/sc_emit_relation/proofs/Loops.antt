-- Loops.
use Rattle.sc_emit_relation.proofs.Common.{All, Arrives, Break, Codes, Comes, Continue, Ends, Exit, ExitGives, Fetches}
use Rattle.sc_emit_relation.proofs.Common.{Follows, Gives, IsClear, Jal, Joint, Leads, Left, Line, List, Lives, Next}
use Rattle.sc_emit_relation.proofs.Common.{None, Piece, Reached, Ready, Return, Running, Setting, Settled, Standpoint}
use Rattle.sc_emit_relation.proofs.Common.{StandsAt, Starts, Stopped, TempSet, Temps, Trail, Walks, [], add_word, ap}
use Rattle.sc_emit_relation.proofs.Common.{arith, code_inside, cycle, ends_of, follow, in_body, in_head, in_loop, inl}
use Rattle.sc_emit_relation.proofs.Common.{is_some, jump_back, length, length-append, live_at_start, live_before, loop}
use Rattle.sc_emit_relation.proofs.Common.{loop_points, low_after, machine, neg_ℤ, op_imm, pos, refl, rounds, row}
use Rattle.sc_emit_relation.proofs.Common.{seen_from, subst, suc, sym, take, trail_step, word_of, world_at, zero, ℕ}
use Rattle.sc_emit_relation.proofs.Common.{⊎_elim, ◌*◌, ◌++◌, ◌+◌, ◌∙◌, ◌∷◌, ◌≡◌, ◌≤◌}
use Rattle.sc_emit_select.specs.Prelude.{Piece as Code}
use Rattle.rv_code.specs.declared.instr.Instr.TheVariants.{OpImm}
use Rattle.rv_code.specs.declared.instr.OpImmOp.TheVariants.{Addi}
use Rattle.sc_tac.specs.declared.stmt.TacStmt.TheOpen as tac
use Rattle.sc_emit_relation.proofs.Jumps.{back_to, jumps, jumps_once, ready_at}
use Rattle.sc_emit_relation.proofs.Lines.{InParts, in_parts, low_append}
use Rattle.sc_emit_relation.proofs.Rounds.{Round, past_head, clear_head, head_live, head_overflows, ready_less}
use Rattle.sc_emit_relation.proofs.Rounds.{rounds_goes, turned}
use Rattle.sc_emit_relation.proofs.Stretches.{arrives_with, comes_after, effect_still, leads_then, leads_then_steps}
use Rattle.sc_emit_relation.proofs.Stretches.{emits_after, emits_here}
use Rattle.sc_emit_relation.proofs.Running.{IsRunning}

module _ {T : Setting} {R : Running} (valid : IsRunning T R)
    (head body next : Codes) (h b n : Code) (hs bs ns : List Trail) (H : Follows T R head h (row hs))
    (B : Follows T R body b (row bs)) (N : Follows T R next n (row ns)) where
  abbrev whole : Code
  whole = cycle R.activation.frame R.places h b n

  abbrev P : Standpoint
  P = seen_from R.activation

  abbrev comp : ℕ
  comp = R.activation.here.comp

  abbrev body_pc : ℕ → ℕ
  body_pc L = L + 4 + 4 * h.size

  abbrev next_pc : ℕ → ℕ
  next_pc L = body_pc L + 4 * b.size

  abbrev back_pc : ℕ → ℕ
  back_pc L = next_pc L + 4 * n.size

  abbrev back_lines : ℕ
  back_lines = h.size + (b.size + n.size)

  -- the code's parts
  record Parts (L : ℕ) : Type 0 where
    first : Fetches T.image comp L (OpImm Addi 0 0 (pos 0))
    of_head : StandsAt T R (L + 4) h (b.size + suc n.size) 0
    of_body : StandsAt T R (body_pc L) b (suc n.size) 0
    of_next : StandsAt T R (next_pc L) n 1 0
    back : Fetches T.image comp (back_pc L) (Jal 0 (neg_ℤ (pos (4 * back_lines))))

  parts : (L to_break to_continue : ℕ) → StandsAt T R L whole to_break to_continue → Parts L
  parts L to_break to_continue code =
      let addresses = T.addresses comp in
      let hl : List Line = h.lines (b.size + suc n.size) 0 in
      let bl : List Line = b.lines (suc n.size) 0 in
      let nl : List Line = n.lines 1 0 in
      let jl : List Line = jump_back back_lines ∷ [] in
      let one : InParts addresses T.image comp (L + 4) hl (bl ++ (nl ++ jl)) =
      in_parts addresses T.image comp (L + 4) hl (bl ++ (nl ++ jl)) (H.closed (b.size + suc n.size) 0) code.1 in
      let e1 : L + 4 + 4 * length hl ≡ body_pc L = ap (λ k. L + 4 + 4 * k) (H.sized (b.size + suc n.size) 0) in
      let two : InParts addresses T.image comp (L + 4 + 4 * length hl) bl (nl ++ jl) =
      in_parts addresses T.image comp (L + 4 + 4 * length hl) bl (nl ++ jl) (B.closed (suc n.size) 0) one.back in
      let e2 : L + 4 + 4 * length hl + 4 * length bl ≡ next_pc L =
      omega (arith, e1, B.sized (suc n.size) 0) in
      let three : InParts addresses T.image comp (L + 4 + 4 * length hl + 4 * length bl) nl jl =
      in_parts addresses T.image comp (L + 4 + 4 * length hl + 4 * length bl) nl jl (N.closed 1 0) two.back in
      let e3 : L + 4 + 4 * length hl + 4 * length bl + 4 * length nl ≡ back_pc L = omega (arith, e2, N.sized 1 0) in
      record {
        first = code.0;
        of_head = one.prefix;
        of_body = subst (λ pc. StandsAt T R pc b (suc n.size) 0) e1 two.prefix;
        of_next = subst (λ pc. StandsAt T R pc n 1 0) e2 three.prefix;
        back = subst (λ pc. Fetches T.image comp pc (Jal 0 (neg_ℤ (pos (4 * back_lines))))) e3 three.back.0;
      }

  module _ (pays : whole.size ≤ T.turn_pays) (lives : Lives) (L left to_break to_continue : ℕ) (code : Parts L)
      (clear : All (IsClear R.places) (loop_points hs bs ns lives)) (breaks : L + 4 * (whole.size + to_break) ≤ R.last)
    where
      abbrev W : ℕ
      W = T.turn_pays

      abbrev begin : TempSet
      begin = live_at_start hs bs ns lives

      abbrev ends : Ends
      ends = ends_of whole L left to_break to_continue

      abbrev Goal : Joint → ℕ → Piece (Left Temps) → Type 0
      Goal x budget piece = Comes T R lives x budget ends piece

      abbrev head_left : ℕ
      head_left = b.size + (1 + (n.size + left))

      -- a round after the head; the jump back is left after it
      abbrev round : Round T R b n ends
      round = record {
        body_pc = body_pc L;
        body_break = suc n.size;
        next_break = 1;
        of_body = code.of_body;
        of_next = code.of_next;
        body_breaks = omega arith;
        next_breaks = omega arith;
        fits = omega (arith, breaks);
        turn_left = head_left;
        round_left = 1 + (left + W);
        pays = omega arith;
        enough = omega arith;
      }

      -- where the head begins
      abbrev inside : Joint → Joint
      inside x = record x { pc = L + 4 }

      -- one more round, as it is known of fewer, where one step leads to the head: the first instruction of the loop,
      -- or the jump back
      abbrev Rounds : ℕ → Type 0
      Rounds k = (temps : Temps) (x : Joint) (budget : ℕ) → Ready T R begin temps x →
          (first : Leads T P x (inside x) budget (h.size + head_left)) → first.steps ≡ 1 →
          Goal x budget (rounds k head body next temps x.meant)

      -- the jump back
      again : (k : ℕ) → Rounds k → (temps : Temps) (u : Joint) → Ready T R begin temps u → u.pc ≡ back_pc L →
          Goal u (1 + (left + W)) (rounds k head body next temps u.meant)
      again k more temps u ready place =
          let first = code_inside T.image valid.formed comp L code.first.word code.first.fetched in
          let there = valid.gapless L (L + 4) (ap is_some code.first.fetched) (omega arith) (omega (arith, breaks))
          (omega (arith, first.aligned)) in
          let from = code_inside T.image valid.formed comp (back_pc L) code.back.word code.back.fetched in
          let target : add_word (back_pc L) (word_of (neg_ℤ (pos (4 * back_lines)))) ≡ L + 4 =
          back_to (back_pc L) back_lines (omega arith) (omega (arith, from.low)) ∙ omega arith in
          let jump : Fetches T.image comp u.pc (Jal 0 (neg_ℤ (pos (4 * back_lines)))) =
          subst (λ pc. Fetches T.image comp pc (Jal 0 (neg_ℤ (pos (4 * back_lines))))) (sym place) code.back in
          let leads : add_word u.pc (word_of (neg_ℤ (pos (4 * back_lines)))) ≡ L + 4 =
          subst (λ pc. add_word pc (word_of (neg_ℤ (pos (4 * back_lines)))) ≡ L + 4) (sym place) target in
          let paid : suc (h.size + head_left) ≤ 1 + (left + W) = omega (arith, pays) in
          more temps u (1 + (left + W)) ready
          (jumps T valid.formed P u (neg_ℤ (pos (4 * back_lines))) (L + 4) there.0 (1 + (left + W))
          (h.size + head_left) jump leads there.1 paid)
          (jumps_once T valid.formed P u (neg_ℤ (pos (4 * back_lines))) (L + 4) there.0 (1 + (left + W))
          (h.size + head_left) jump leads there.1 paid)

      abbrev head_ends : Ends
      head_ends = record { left = head_left; following = body_pc L; broken = ends.following; continued = body_pc L }

      after_head : (k : ℕ) → Rounds k → (x : Joint) (budget : ℕ) → Settled T P x →
          (first : Leads T P x (inside x) budget (h.size + head_left)) → first.steps ≡ 1 →
          (piece : Piece (Left Temps)) →
          Gives T R (in_head hs bs ns lives) (inside x) (h.size + head_left) head_ends piece →
          Goal x budget (follow in_loop piece (past_head head body next k))
      after_head k more x budget settled first one (Stopped end s) g =
          inl (emits_after T P x (inside x) budget (h.size + head_left) s first g)
      after_head k more x budget settled first one (Reached l s) g = by l.exit g
        where
          then_on : (piece : Piece (Left Temps)) → Goal (inside x) (h.size + head_left) piece →
              Goal x budget piece
          then_on piece g =
              comes_after T R lives x (inside x) budget (h.size + head_left) ends piece settled first g

          steps : (g : Arrives T R (live_before bs (in_body hs bs ns lives)) (inside x) (h.size + head_left) head_left
              l.carried s (body_pc L)) →
              (leads_then T P x (inside x) g.y budget (h.size + head_left) head_left settled first
              g.leads).steps ≡ first.steps + g.leads.steps
          steps g =
              leads_then_steps T P x (inside x) g.y budget (h.size + head_left) head_left settled first g.leads

          on : Arrives T R (live_before bs (in_body hs bs ns lives)) (inside x) (h.size +
              head_left) head_left l.carried s
              (body_pc L) → Goal x budget (past_head head body next k l.carried s)
          on g =
              subst (λ s. Goal x budget (past_head head body next k l.carried s)) g.meant_is
              (turned T R head body next b n hs bs ns H.goes B N lives clear ends round k (again k more) l.carried x g.y
              budget settled
              (leads_then T P x (inside x) g.y budget (h.size + head_left) head_left settled first g.leads)
              (omega (arith, g.leads.costs.least, one, steps g)) g.ready g.pc_is)

          by : (exit : Exit) →
              ExitGives T R (in_head hs bs ns lives) (inside x) (h.size + head_left) head_ends exit l.carried s →
              Goal x budget (take (in_loop exit) (past_head head body next k) l.carried s)
          by Next g = on g
          by Continue g = on g
          by Break g =
              then_on (Reached (record { exit = Next; carried = l.carried }) s)
              (inl (arrives_with T R lives.following (inside x) (h.size + head_left) (h.size + head_left) head_left left
              l.carried s ends.following ends.following (omega arith) (omega arith) refl g))
          by (Return v) g = then_on (Reached (record { exit = Return v; carried = l.carried }) s) (inl g)

      -- `k` rounds
      rounds_follow : (k : ℕ) → Rounds k
      rounds_follow zero temps x budget ready leads one = inl (emits_here T P x budget)
      rounds_follow (suc k) temps x budget ready leads one =
          let y : Joint = inside x in
          let e : ends_of h (L + 4) head_left (b.size + suc n.size) 0 ≡ head_ends =
          (let e2 : L + 4 + 4 * (h.size + (b.size + suc n.size)) ≡ ends.following = omega arith in
          let e3 : L + 4 + 4 * (h.size + 0) ≡ body_pc L = omega arith in rw (e2, e3) refl) in
          let starts : Starts T R h (row hs) (in_head hs bs ns lives) temps y (b.size + suc n.size) 0 = record {
            ready =
                ready_less T R begin (live_before hs (in_head hs bs ns lives)) temps y (head_live hs bs ns lives)
                (ready_at valid begin temps x y.pc budget (h.size + head_left) leads ready);
            clear = clear_head R.places hs bs ns lives clear;
            stands = code.of_head;
            breaks = omega (arith, breaks);
            continues = omega (arith, breaks);
          } in
          ⊎_elim
          (λ g. after_head k (rounds_follow k) x budget ready.settled leads one (head temps x.meant)
          (subst (λ ends. Gives T R (in_head hs bs ns lives) y (h.size + head_left) ends (head temps x.meant)) e g))
          (λ o. comes_after T R lives x y budget (h.size + head_left) ends
          (follow in_loop (head temps x.meant) (past_head head body next k)) ready.settled leads
          (head_overflows T R head body next b n hs bs ns H.goes B N lives clear ends k y (h.size + head_left)
          (head temps x.meant) o))
          (H.runs (in_head hs bs ns lives) temps y head_left (b.size + suc n.size) 0 starts)

      -- the instruction that the loop begins with
      begins : (x : Joint) → x.pc ≡ L → Leads T P x (inside x) (whole.size + left) (h.size + head_left)
      begins x place = record {
        steps = 1;
        run =
            subst (λ pc. Walks T.image T.inputs 1 (machine P (record x { pc = pc })) (machine P (inside x))) (sym place)
            (op_imm T.image T.inputs L x.regs x.bytes (world_at P x) Addi 0 0 (pos 0) (add_word 0 0) (omega arith)
            (omega arith) code.first refl);
        costs = record { least = omega arith; most = λ all. omega arith };
        effect = effect_still T P x (L + 4) x.regs;
      }

      loop_comes : (k : ℕ) (temps : Temps) (x : Joint) → Ready T R begin temps x → x.pc ≡ L →
          Goal x (whole.size + left) (rounds k head body next temps x.meant)
      unfolding begins
      loop_comes k temps x ready place =
          rounds_follow k temps x (whole.size + left) ready (begins x place) refl

  pub loop_follows : whole.size ≤ T.turn_pays → Follows T R (loop head body next) whole (trail_step (tac.Loop hs bs ns))
  loop_follows pays = record {
    sized = λ to_break to_continue.
        (let back : List Line = jump_back back_lines ∷ [] in
        let last : List Line = n.lines 1 0 ++ back in
        let middle : List Line = b.lines (suc n.size) 0 ++ last in
        omega (
          arith,
          length-append (h.lines (b.size + suc n.size) 0) middle,
          length-append (b.lines (suc n.size) 0) last,
          length-append (n.lines 1 0) back,
          H.sized (b.size + suc n.size) 0,
          B.sized (suc n.size) 0,
          N.sized 1 0,
        ));
    closed = λ to_break to_continue. closed_by;
    goes = λ temps s. rounds_goes head body next H.goes B.goes N.goes (suc s.turns) temps s;
    runs = λ lives temps x left to_break to_continue starts.
        loop_comes pays lives x.pc left to_break to_continue (parts x.pc to_break to_continue starts.stands)
        starts.clear starts.breaks (suc x.meant.turns) temps x starts.ready refl;
  }
    where
      closed_by : low_after (T.addresses comp) None (whole.lines 0 0) ≡ None
      closed_by =
          let addresses = T.addresses comp in
          let hl : List Line = h.lines (b.size + suc n.size) 0 in
          let bl : List Line = b.lines (suc n.size) 0 in
          let nl : List Line = n.lines 1 0 in
          let jl : List Line = jump_back back_lines ∷ [] in
          low_append addresses None hl (bl ++ (nl ++ jl)) ∙
          ap (λ low. low_after addresses low (bl ++ (nl ++ jl))) (H.closed (b.size + suc n.size) 0) ∙
          low_append addresses None bl (nl ++ jl) ∙
          ap (λ low. low_after addresses low (nl ++ jl)) (B.closed (suc n.size) 0) ∙
          low_append addresses None nl jl ∙ ap (λ low. low_after addresses low jl) (N.closed 1 0)
