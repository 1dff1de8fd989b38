-- Choices: one branch, over the jump to the second part, or over the second part.
use Rattle.sc_emit.proofs.Common.{All, All-tail, Arrives, Bne, Bool, Branch, Break, CodeAt, Codes, Comes, Continue}
use Rattle.sc_emit.proofs.Common.{Ends, Exit, ExitGives, Fetches, Follows, FrameTree, Goes, Gone, InParts, Instr}
use Rattle.sc_emit.proofs.Common.{IsClear, IsInside, IsRunning, Jal, Joint, Left, Line, List, Lives, MovesOn, Next}
use Rattle.sc_emit.proofs.Common.{None, Null, Option, Piece, Ptr, Reached, Ready, Registers, Return, Running, Setting}
use Rattle.sc_emit.proofs.Common.{Settled, Some, Standpoint, StandsAt, StandsFor, Starts, State as Meant, Stopped}
use Rattle.sc_emit.proofs.Common.{TempSet, Temps, Trail, Value, Walks, Word, [], add_word, all_back, all_prefix}
use Rattle.sc_emit.proofs.Common.{and_first, and_from, and_rest, and_then, ap, arith, arrives_with, at, back_at, choice}
use Rattle.sc_emit.proofs.Common.{choose, choosing, code_inside, comes_after, comes_read, completed, ends_of, eq-eqb}
use Rattle.sc_emit.proofs.Common.{eqb-true, false, first_scratch, fork, if◌then◌else◌, in_order, in_parts, inl, inr}
use Rattle.sc_emit.proofs.Common.{is_empty, is_some, is_true, jump_over, kind_of_fork, leads_less, leads_none, length}
use Rattle.sc_emit.proofs.Common.{length-append, length-map, live_at, live_before, look, low_after, low_append}
use Rattle.sc_emit.proofs.Common.{low_plainly, machine, moved, ne_eqb, not, operand, or_left, or_right, over, past}
use Rattle.sc_emit.proofs.Common.{plain, plainly, plainly_at, point, pos, prefix_at, read, ready_less, refl, row}
use Rattle.sc_emit.proofs.Common.{row_points, seen_from, skipping, sp, subst, suc, sym, take, trail_step, true, word_at}
use Rattle.sc_emit.proofs.Common.{word_of, zero, ℕ, ℤ, ⊎_elim, ◌%◌, ◌&&◌, ◌*◌, ◌++◌, ◌+◌, ◌==◌, ◌∙◌, ◌∷◌, ◌≡◌, ◌≤◌}
use Rattle.sc_emit_select.specs.Prelude.{Piece as Code}
use Rattle.sc_emit_hart.proofs.Steps.{then_go, branch_taken, branch_not_taken}
use Rattle.sc_tac.specs.declared.stmt.TacStmt.TheOpen as tac
use Rattle.sc_emit_relation.proofs.Assigning.{moves_on}
use Rattle.sc_emit.proofs.Operands.{AtHand, first_is, brings, world}
use Rattle.sc_emit.proofs.Straight.{read_goes, with_kind}

-- a value is true where its word isn't 0
truth_is : (place : ℕ → Option ℕ) (v : Value) (w : ℕ) → StandsFor place w v → is_true v ≡ not (w == 0)
truth_is place (Word n) w h = ap (λ n. not (n == 0)) (sym h.means)
truth_is place Null w h = rw h.means refl
truth_is place (Ptr p) w h = rw (ne_eqb w 0 (λ e. omega (arith, h.means.3.above, e))) refl

module _ {T : Setting} {R : Running} (valid : IsRunning T R) where
  abbrev frame : FrameTree
  frame = R.activation.frame

  abbrev P : Standpoint
  P = seen_from R.activation

  abbrev comp : ℕ
  comp = R.activation.here.comp

  -- a jump past `lines` lines arrives after them, and where there are none it is there
  past_arrives : (live : TempSet) (temps : Temps) (x : Joint) (lines left : ℕ) → Ready T R live temps x →
      CodeAt T.image comp x.pc (completed (T.addresses comp) x.pc None (past lines)) →
      x.pc + 4 * (length (past lines) + lines) ≤ R.last →
      Arrives T R live x (length (past lines) + left) left temps x.meant (x.pc + 4 * (length (past lines) + lines))
  past_arrives live temps x zero left ready code fits = record {
    y = x;
    meant_is = refl;
    pc_is = omega arith;
    leads = leads_none T P x (0 + left) left (omega arith);
    ready = ready;
  }
  past_arrives live temps x (suc lines) left ready code fits =
      arrives_with T R live x (suc left) (1 + left) left left temps x.meant (x.pc + 4 * suc (suc lines))
      (x.pc + 4 * (1 + suc lines)) (omega arith) (omega arith) (omega arith)
      (over valid live temps x (suc lines) left ready code.0 (omega (arith, fits)))

  past_closed : (lines : ℕ) → low_after (T.addresses comp) None (past lines) ≡ None
  past_closed zero = refl
  past_closed (suc lines) = refl

  -- a piece without lines stands everywhere
  none_stand : (pc : ℕ) (lines : List Line) → length lines ≡ 0 →
      CodeAt T.image comp pc (completed (T.addresses comp) pc None lines)
  none_stand pc [] h = tt
  none_stand pc (line ∷ lines) h = absurd (omega (arith, h))

  -- A BRANCH WHERE A VALUE IS TRUE
  -- wherever it leads, after the code of its operand
  module _ (cond : ℕ) (imm : ℤ) where
    abbrev its_take : List Instr
    its_take = take frame R.places first_scratch cond

    abbrev its_branch : Instr
    its_branch = Branch Bne (operand frame R.places first_scratch cond) 0 imm

    abbrev branch_pc : ℕ → ℕ
    branch_pc L = L + 4 * length its_take

    pub record Branches (L : ℕ) : Type 0 where
      pub takes : CodeAt T.image comp L its_take
      pub branches : Fetches T.image comp (branch_pc L) its_branch

    pub branches_at : (L : ℕ) → CodeAt T.image comp L (its_take ++ its_branch ∷ []) → Branches L
    branches_at L code = record {
      takes = prefix_at T.image comp L its_take (its_branch ∷ []) code;
      branches = (back_at T.image comp L its_take (its_branch ∷ []) code).0;
    }

    module _ (live : TempSet) (temps : Temps) (x : Joint) (ready : Ready T R live temps x) (code : Branches x.pc)
        (on : live cond ≡ true) (need : R.plan.needed cond ≡ true) (v : Value) (known : temps cond ≡ Some v) where
      pub held : AtHand T R x x.regs first_scratch cond v
      held =
          brings T R x valid ready.frame ready.sp x.regs first_scratch cond v first_is
          (ready.held cond v (and_from (live cond) (R.plan.needed cond) on need) known) refl (λ q h. refl)

      -- the steps of the operand's code and of the branch
      abbrev pub Branched : (pc : ℕ) → Type 0
      Branched pc =
          Walks T.image T.inputs (length its_take + 1) (machine P x) (machine P (moved x pc held.after x.bytes))

      after_take : (pc : ℕ) → Walks T.image T.inputs 1 (at (branch_pc x.pc) held.after x.bytes (world T R x))
          (at pc held.after x.bytes (world T R x)) → Branched pc
      after_take pc walk = then_go T.image T.inputs (held.does.walks x.pc code.takes) walk

      compared : not (look held.after (operand frame R.places first_scratch cond) == look held.after 0) ≡ is_true v
      compared =
          ap (λ a. not (a == 0)) held.result ∙ sym (truth_is (x.inj comp) v held.word held.stands)

      -- the value is true
      pub branch_goes : (target word : ℕ) → is_true v ≡ true → add_word (branch_pc x.pc) (word_of imm) ≡ target →
          target % 4 ≡ 0 → word_at T.image comp target ≡ Some word → Branched target
      branch_goes target word true_is to aligned there =
          after_take target
          (branch_taken T.image T.inputs (branch_pc x.pc) held.after x.bytes (world T R x) Bne
          (operand frame R.places first_scratch cond) 0 imm target word held.below (omega arith) code.branches
          (compared ∙ true_is) to aligned there)

      -- it is false
      pub branch_passes : is_true v ≡ false → Branched (branch_pc x.pc + 4)
      branch_passes false_is =
          after_take (branch_pc x.pc + 4)
          (branch_not_taken T.image T.inputs (branch_pc x.pc) held.after x.bytes (world T R x) Bne
          (operand frame R.places first_scratch cond) 0 imm held.below (omega arith) code.branches
          (compared ∙ false_is))

      -- control moves on
      pub branch_moves : (pc rest : ℕ) → Branched pc →
          MovesOn valid live temps x (length its_take + 1) rest pc held.after
      branch_moves pc rest walks =
          moves_on valid live temps x (length its_take + 1) rest pc held.after ready
          (held.others sp ((λ e. omega (arith, e)), ((λ e. omega (arith, e)), tt)))
          (λ q h. held.others q (h.first, (h.address, tt))) walks

  -- A CHOICE
  module _ (cond : ℕ) (one two : Codes) (first second : Code) (fs ss : List Trail) (F : Follows T R one first (row fs))
      (S : Follows T R two second (row ss)) (need : R.plan.needed cond ≡ true) where
    abbrev trail : Trail
    trail = trail_step (tac.If cond fs ss)

    abbrev before : List Instr
    before = take frame R.places first_scratch cond

    abbrev test : List Line
    test = plainly (choice frame R.places cond)

    abbrev count : ℕ
    count = length (choice frame R.places cond)

    abbrev branch : Instr
    branch = Branch Bne (operand frame R.places first_scratch cond) 0 (pos 8)

    test_is : length test ≡ count
    test_is = length-map (choice frame R.places cond) plain

    count_is : count ≡ length before + 1
    count_is = length-append before (branch ∷ [])

    does : Codes
    does temps s = and_then (read R.activation.here cond temps s) (λ v s. choose v (one temps s) (two temps s))

    does_goes : (temps : Temps) → Goes (does temps)
    unfolding does
    does_goes temps = read_goes R.activation.here cond temps (λ v s. choose v (one temps s) (two temps s))
        (λ v s. by v (is_true v) temps s)
      where
        by : (v : Value) (b : Bool) (temps : Temps) (s : Meant) →
            Gone s (if b then one temps s else two temps s)
        by v true temps s = F.goes temps s
        by v false temps s = S.goes temps s

    -- after the branch, and after the line that it leads over
    abbrev not_taken : ℕ → ℕ
    not_taken L = L + 4 * count

    abbrev taken : ℕ → ℕ
    taken L = L + 4 * count + 4

    -- the operand and the branch
    abbrev Chooses : ℕ → Type 0
    Chooses = Branches cond (pos 8)

    -- what is live in the parts is live before
    module _ (lives : Lives) where
      abbrev live : TempSet
      live = live_at trail lives

      first_live : (t : ℕ) → live_before fs lives t ≡ true → live t ≡ true
      first_live t on = or_right (cond == t) _ (or_left (live_before fs lives t) (live_before ss lives t) on)

      second_live : (t : ℕ) → live_before ss lives t ≡ true → live t ≡ true
      second_live t on = or_right (cond == t) _ (or_right (live_before fs lives t) (live_before ss lives t) on)

      cond_live : live cond ≡ true
      cond_live = or_left (cond == cond) _ (eq-eqb cond cond refl)

      clear_parts : All (IsClear R.places) (trail.points lives) →
          All (IsClear R.places) (row_points fs lives ++ row_points ss lives)
      clear_parts clear =
          All-tail (IsClear R.places) (point false live) (row_points fs lives ++ row_points ss lives) clear

      -- whatever code the branch is part of
      module _ (temps : Temps) (x : Joint) (budget : ℕ) (ends : Ends) (ready : Ready T R live temps x)
          (code : Chooses x.pc) (last : taken x.pc ≤ R.last) where
        abbrev L : ℕ
        L = x.pc

        here : IsInside (L + 4 * length before)
        here = code_inside T.image valid.formed comp (L + 4 * length before) code.branches.word code.branches.fetched

        module _ (v : Value) (known : temps cond ≡ Some v) where
          abbrev after : Registers
          after = (held cond (pos 8) live temps x ready code cond_live need v known).after

          -- control moves on by the operand's code and the branch
          moved_to : (pc rest : ℕ) → Branched cond (pos 8) live temps x ready code cond_live need v known pc →
              MovesOn valid live temps x (length before + 1) rest pc after
          moved_to = branch_moves cond (pos 8) live temps x ready code cond_live need v known

          -- the value is true: what comes of the first part, after the line that the branch leads over
          first_comes : (rest : ℕ) → length before + 1 + rest ≤ budget → is_true v ≡ true →
              ((y : Joint) → y.pc ≡ taken L → y.meant ≡ x.meant → Ready T R (live_before fs lives) temps y →
              Comes T R lives y rest ends (one temps y.meant)) →
              Comes T R lives x budget ends (one temps x.meant)
          first_comes rest few true_is on =
              let aligned : taken L % 4 ≡ 0 = omega (arith, here.aligned, count_is) in
              let there = valid.gapless (L + 4 * length before) (taken L) (ap is_some code.branches.fetched)
              (omega (arith, count_is)) last aligned in
              let low : IsInside (taken L) = code_inside T.image valid.formed comp (taken L) there.0 there.1 in
              let target : add_word (L + 4 * length before) (word_of (pos 8)) ≡ taken L =
              omega (arith, low.low, count_is) in
              let m = moved_to (taken L) rest (branch_goes cond (pos 8) live temps x ready code cond_live need v known
              (taken L) there.0 true_is target aligned there.1) in
              let y : Joint = moved x (taken L) after x.bytes in
              comes_after T R lives x y budget rest ends (one temps x.meant) ready.settled
              (leads_less T P x y (length before + 1 + rest) rest budget rest few (omega arith) m.leads)
              (on y refl refl (ready_less T R live (live_before fs lives) temps y first_live m.ready))

          -- it is false: what comes of the second, after the branch
          second_comes : (rest : ℕ) → length before + 1 + rest ≤ budget → is_true v ≡ false →
              ((y : Joint) → y.pc ≡ not_taken L → y.meant ≡ x.meant → Ready T R (live_before ss lives) temps y →
              Comes T R lives y rest ends (two temps y.meant)) →
              Comes T R lives x budget ends (two temps x.meant)
          second_comes rest few false_is on =
              let m = moved_to (L + 4 * length before + 4) rest (branch_passes cond (pos 8) live temps x ready code
              cond_live need v known false_is) in
              let y : Joint = moved x (L + 4 * length before + 4) after x.bytes in
              comes_after T R lives x y budget rest ends (two temps x.meant) ready.settled
              (leads_less T P x y (length before + 1 + rest) rest budget rest few (omega arith) m.leads)
              (on y (omega (arith, count_is)) refl
              (ready_less T R live (live_before ss lives) temps y second_live m.ready))

        -- by what the value is
        does_comes : (rest more : ℕ) → length before + 1 + rest ≤ budget → length before + 1 + more ≤ budget →
            ((y : Joint) → y.pc ≡ taken L → y.meant ≡ x.meant → Ready T R (live_before fs lives) temps y →
            Comes T R lives y rest ends (one temps y.meant)) →
            ((y : Joint) → y.pc ≡ not_taken L → y.meant ≡ x.meant → Ready T R (live_before ss lives) temps y →
            Comes T R lives y more ends (two temps y.meant)) →
            Comes T R lives x budget ends (does temps x.meant)
        unfolding does
        does_comes rest more few less on off =
            comes_read T R lives x budget ends R.activation.here cond temps
            (λ v s. choose v (one temps s) (two temps s)) (λ v known. chosen v known (is_true v) refl)
          where
            chosen : (v : Value) → temps cond ≡ Some v → (b : Bool) → is_true v ≡ b →
                Comes T R lives x budget ends (if b then one temps x.meant else two temps x.meant)
            chosen v known true e = first_comes v known rest few e on
            chosen v known false e = second_comes v known more less e off

    -- THE BRANCH OVER A JUMP
    abbrev whole : Code
    whole = choosing frame R.places cond first second

    abbrev skip : List Line
    skip = past second.size

    abbrev ahead : ℕ
    ahead = first.size + length skip

    abbrev skip_pc : ℕ → ℕ
    skip_pc L = taken L + 4 * first.size

    abbrev second_pc : ℕ → ℕ
    second_pc L = skip_pc L + 4 * length skip

    -- how far after the first part a place after the whole is
    abbrev farther : ℕ → ℕ
    farther n = length skip + (second.size + n)

    -- the code's parts
    record Parts (L to_break to_continue : ℕ) : Type 0 where
      chooses : Chooses L
      to_second : Fetches T.image comp (not_taken L) (Jal 0 (pos (4 * suc ahead)))
      of_first : StandsAt T R (taken L) first (farther to_break) (farther to_continue)
      over_second : CodeAt T.image comp (skip_pc L) (completed (T.addresses comp) (skip_pc L) None skip)
      of_second : StandsAt T R (second_pc L) second to_break to_continue

    ahead_closed : (b c : ℕ) → low_after (T.addresses comp) None (first.lines (farther b) (farther c) ++ skip) ≡ None
    ahead_closed b c =
        low_append (T.addresses comp) None (first.lines (farther b) (farther c)) skip ∙
        ap (λ low. low_after (T.addresses comp) low skip) (F.closed (farther b) (farther c)) ∙
        past_closed second.size

    ahead_sized : (b c : ℕ) → length (first.lines (farther b) (farther c) ++ skip) ≡ ahead
    ahead_sized b c =
        omega (arith, length-append (first.lines (farther b) (farther c)) skip, F.sized (farther b) (farther c))

    parts : (L b c : ℕ) → StandsAt T R L whole b c → Parts L b c
    parts L b c code =
        let addresses = T.addresses comp in
        let fl : List Line = first.lines (farther b) (farther c) in
        let al : List Line = fl ++ skip in
        let sl : List Line = second.lines b c in
        let jump : Line = jump_over ahead in
        let one : InParts addresses T.image comp L test (jump ∷ (al ++ sl)) =
        in_parts addresses T.image comp L test (jump ∷ (al ++ sl))
        (low_plainly addresses (choice frame R.places cond)) code in
        let following = subst (λ k. CodeAt T.image comp (L + 4 * k) (completed addresses (L + 4 * k) None
        (jump ∷ (al ++ sl)))) test_is one.back in
        let later : InParts addresses T.image comp (taken L) al sl =
        in_parts addresses T.image comp (taken L) al sl (ahead_closed b c) following.1 in
        let inner : InParts addresses T.image comp (taken L) fl skip =
        in_parts addresses T.image comp (taken L) fl skip (F.closed (farther b) (farther c)) later.prefix in
        let place : taken L + 4 * length al ≡ second_pc L = omega (arith, ahead_sized b c) in
        record {
          chooses = branches_at cond (pos 8) L
              (plainly_at addresses T.image comp L (choice frame R.places cond) one.prefix);
          to_second = following.0;
          of_first = inner.prefix;
          over_second =
              subst (λ k. CodeAt T.image comp (taken L + 4 * k) (completed addresses (taken L + 4 * k) None skip))
              (F.sized (farther b) (farther c)) inner.back;
          of_second = subst (λ pc. StandsAt T R pc second b c) place later.back;
        }

    whole_is : whole.size ≡ length before + 1 + (1 + (ahead + second.size))
    whole_is = omega (arith, test_is, count_is)

    module _ (lives : Lives) (temps : Temps) (x : Joint) (left to_break to_continue : ℕ)
        (starts : Starts T R whole trail lives temps x to_break to_continue) where
      abbrev start : ℕ
      start = x.pc

      abbrev budget : ℕ
      budget = whole.size + left

      abbrev ends : Ends
      ends = ends_of whole x.pc left to_break to_continue

      code : Parts start to_break to_continue
      code = parts x.pc to_break to_continue starts.stands

      -- The first part.
      abbrev first_left : ℕ
      first_left = 1 + (length skip + (second.size + left))

      after_first : (y : Joint) → y.pc ≡ taken start → (exit : Exit) (temps' : Temps) (s : Meant) →
          Settled T P y →
          ExitGives T R lives y (first.size + first_left)
          (ends_of first y.pc first_left (farther to_break) (farther to_continue)) exit temps' s →
          Comes T R lives y (first.size + first_left) ends (Reached (record { exit = exit; carried = temps' }) s)
      after_first y place Next temps' s settled g =
          let z : Joint = g.y in
          let at_skip : z.pc ≡ skip_pc start = g.pc_is ∙ omega (arith, place) in
          let a : Arrives T R lives.following z (length skip + left) left temps' z.meant
          (z.pc + 4 * (length skip + second.size)) =
          past_arrives lives.following temps' z second.size left g.ready
          (subst (λ pc. CodeAt T.image comp pc (completed (T.addresses comp) pc None skip)) (sym at_skip)
          code.over_second) (omega (arith, at_skip, starts.breaks, test_is)) in
          subst (λ s. Comes T R lives y (first.size + first_left) ends
          (Reached (record { exit = Next; carried = temps' }) s)) g.meant_is
          (comes_after T R lives y z (first.size + first_left) (length skip + left) ends
          (Reached (record { exit = Next; carried = temps' }) z.meant) settled
          (leads_less T P y z (first.size + first_left) first_left (first.size + first_left) (length skip + left)
          (omega arith) (omega arith) g.leads)
          (inl (arrives_with T R lives.following z (length skip + left) (length skip + left) left left temps' z.meant
          (z.pc + 4 * (length skip + second.size)) ends.following (omega arith) (omega arith)
          (omega (arith, at_skip, test_is)) a)))
      after_first y place Break temps' s settled g =
          inl (arrives_with T R lives.broken y (first.size + first_left) (first.size + first_left) first_left left
          temps' s (y.pc + 4 * (first.size + farther to_break)) ends.broken (omega arith) (omega arith)
          (omega (arith, place, test_is)) g)
      after_first y place Continue temps' s settled g =
          inl (arrives_with T R lives.continued y (first.size + first_left) (first.size + first_left) first_left left
          temps' s (y.pc + 4 * (first.size + farther to_continue)) ends.continued (omega arith) (omega arith)
          (omega (arith, place, test_is)) g)
      after_first y place (Return w) temps' s settled g = inl g

      in_first : (y : Joint) → y.pc ≡ taken start → Settled T P y → (piece : Piece (Left Temps)) →
          Comes T R lives y (first.size + first_left)
          (ends_of first y.pc first_left (farther to_break) (farther to_continue)) piece →
          Comes T R lives y (first.size + first_left) ends piece
      in_first y place settled (Reached l s) g =
          ⊎_elim (λ h. after_first y place l.exit l.carried s settled h) (λ o. inr o) g
      in_first y place settled (Stopped end s) g = g

      from_first : (y : Joint) → y.pc ≡ taken start → y.meant ≡ x.meant → Ready T R (live_before fs lives) temps y →
          Comes T R lives y (first.size + first_left) ends (one temps y.meant)
      from_first y place same ready =
          let begins : Starts T R first (row fs) lives temps y (farther to_break) (farther to_continue) = record {
            ready = ready;
            clear =
                all_prefix (IsClear R.places) (row_points fs lives) (row_points ss lives) (clear_parts lives
                starts.clear);
            stands =
                subst (λ pc. StandsAt T R pc first (farther to_break) (farther to_continue)) (sym place) code.of_first;
            breaks = omega (arith, place, starts.breaks, test_is);
            continues = omega (arith, place, starts.continues, test_is);
          } in
          in_first y place ready.settled (one temps y.meant)
          (F.runs lives temps y first_left (farther to_break) (farther to_continue) begins)

      -- The second part.
      from_second : (y : Joint) → y.pc ≡ not_taken start → y.meant ≡ x.meant →
          Ready T R (live_before ss lives) temps y →
          Comes T R lives y (suc (second.size + left)) ends (two temps y.meant)
      from_second y place same ready =
          let a : Arrives T R (live_before ss lives) y (suc (second.size + left)) (second.size + left) temps y.meant
          (y.pc + 4 * suc ahead) =
          over valid (live_before ss lives) temps y ahead (second.size + left) ready
          (subst (λ pc. Fetches T.image comp pc (Jal 0 (pos (4 * suc ahead)))) (sym place) code.to_second)
          (omega (arith, place, starts.breaks, test_is)) in
          let z : Joint = a.y in
          let there : z.pc ≡ second_pc start = a.pc_is ∙ omega (arith, place) in
          let e1 : z.pc + 4 * second.size ≡ ends.following = omega (arith, there, test_is) in
          let e2 : z.pc + 4 * (second.size + to_break) ≡ ends.broken = omega (arith, there, test_is) in
          let e3 : z.pc + 4 * (second.size + to_continue) ≡ ends.continued = omega (arith, there, test_is) in
          let same : ends_of second z.pc left to_break to_continue ≡ ends = rw (e1, e2, e3) refl in
          let begins : Starts T R second (row ss) lives temps z to_break to_continue = record {
            ready = a.ready;
            clear =
                all_back (IsClear R.places) (row_points fs lives) (row_points ss lives) (clear_parts lives
                starts.clear);
            stands = subst (λ pc. StandsAt T R pc second to_break to_continue) (sym there) code.of_second;
            breaks = omega (arith, there, starts.breaks, test_is);
            continues = omega (arith, there, starts.continues, test_is);
          } in
          subst (λ s. Comes T R lives y (suc (second.size + left)) ends (two temps s)) a.meant_is
          (comes_after T R lives y z (suc (second.size + left)) (second.size + left) ends (two temps z.meant)
          ready.settled a.leads
          (subst (λ ends. Comes T R lives z (second.size + left) ends (two temps z.meant)) same
          (S.runs lives temps z left to_break to_continue begins)))

      whole_comes : Comes T R lives x budget ends (does temps x.meant)
      whole_comes =
          does_comes lives temps x budget ends starts.ready code.chooses (omega (arith, starts.breaks, test_is))
          (first.size + first_left) (suc (second.size + left)) (omega (arith, whole_is)) (omega (arith, whole_is))
          from_first from_second

    choosing_follows : Follows T R does whole trail
    choosing_follows = record {
      sized = λ b c.
          (let al : List Line = first.lines (farther b) (farther c) ++ skip in
          omega (
            arith,
            length-append test (jump_over ahead ∷ (al ++ second.lines b c)),
            length-append al (second.lines b c),
            ahead_sized b c,
            S.sized b c,
          ));
      closed = λ b c.
          (let addresses = T.addresses comp in
          let al : List Line = first.lines (farther b) (farther c) ++ skip in
          low_append addresses None test (jump_over ahead ∷ (al ++ second.lines b c)) ∙
          ap (λ low. low_after addresses low (jump_over ahead ∷ (al ++ second.lines b c)))
          (low_plainly addresses (choice frame R.places cond)) ∙
          low_append addresses None al (second.lines b c) ∙
          ap (λ low. low_after addresses low (second.lines b c)) (ahead_closed b c) ∙ S.closed b c);
      goes = does_goes;
      runs = whole_comes;
    }

    -- THE BRANCH OVER ONE LINE
    module _ (empty : first.size ≡ 0) (single : second.size ≡ 1) where
      abbrev short : Code
      short = skipping frame R.places cond second

      module _ (lives : Lives) (temps : Temps) (x : Joint) (left to_break to_continue : ℕ)
          (starts : Starts T R short trail lives temps x to_break to_continue) where
        abbrev short_ends : Ends
        short_ends = ends_of short x.pc left to_break to_continue

        in_two : InParts (T.addresses comp) T.image comp x.pc test (second.lines to_break to_continue)
        in_two =
            in_parts (T.addresses comp) T.image comp x.pc test (second.lines to_break to_continue)
            (low_plainly (T.addresses comp) (choice frame R.places cond)) starts.stands

        -- where a part stands from which control goes on as from the whole
        on_first : (y : Joint) → y.pc ≡ taken x.pc → y.meant ≡ x.meant → Ready T R (live_before fs lives) temps y →
            Comes T R lives y (first.size + left) short_ends (one temps y.meant)
        on_first y place same ready =
            let e1 : y.pc + 4 * first.size ≡ short_ends.following = omega (arith, place, test_is, empty, single) in
            let e2 : y.pc + 4 * (first.size + to_break) ≡ short_ends.broken =
            omega (arith, place, test_is, empty, single) in
            let e3 : y.pc + 4 * (first.size + to_continue) ≡ short_ends.continued =
            omega (arith, place, test_is, empty, single) in
            let same : ends_of first y.pc left to_break to_continue ≡ short_ends = rw (e1, e2, e3) refl in
            let begins : Starts T R first (row fs) lives temps y to_break to_continue = record {
              ready = ready;
              clear =
                  all_prefix (IsClear R.places) (row_points fs lives) (row_points ss lives) (clear_parts lives
                  starts.clear);
              stands = none_stand y.pc (first.lines to_break to_continue) (F.sized to_break to_continue ∙ empty);
              breaks = omega (arith, place, starts.breaks, test_is, empty, single);
              continues = omega (arith, place, starts.continues, test_is, empty, single);
            } in
            subst (λ ends. Comes T R lives y (first.size + left) ends (one temps y.meant)) same
            (F.runs lives temps y left to_break to_continue begins)

        on_second : (y : Joint) → y.pc ≡ not_taken x.pc → y.meant ≡ x.meant →
            Ready T R (live_before ss lives) temps y →
            Comes T R lives y (second.size + left) short_ends (two temps y.meant)
        on_second y place same ready =
            let there : x.pc + 4 * length test ≡ y.pc = omega (arith, place, test_is) in
            let e1 : y.pc + 4 * second.size ≡ short_ends.following = omega (arith, place, test_is) in
            let e2 : y.pc + 4 * (second.size + to_break) ≡ short_ends.broken = omega (arith, place, test_is) in
            let e3 : y.pc + 4 * (second.size + to_continue) ≡ short_ends.continued = omega (arith, place, test_is) in
            let same : ends_of second y.pc left to_break to_continue ≡ short_ends = rw (e1, e2, e3) refl in
            let begins : Starts T R second (row ss) lives temps y to_break to_continue = record {
              ready = ready;
              clear =
                  all_back (IsClear R.places) (row_points fs lives) (row_points ss lives) (clear_parts lives
                  starts.clear);
              stands = subst (λ pc. StandsAt T R pc second to_break to_continue) there in_two.back;
              breaks = omega (arith, place, starts.breaks, test_is);
              continues = omega (arith, place, starts.continues, test_is);
            } in
            subst (λ ends. Comes T R lives y (second.size + left) ends (two temps y.meant)) same
            (S.runs lives temps y left to_break to_continue begins)

        short_comes : Comes T R lives x (short.size + left) short_ends (does temps x.meant)
        short_comes =
            does_comes lives temps x (short.size + left) short_ends starts.ready
            (branches_at cond (pos 8) x.pc (plainly_at (T.addresses comp) T.image comp x.pc (choice frame R.places cond)
            in_two.prefix))
            (omega (arith, starts.breaks, test_is, single)) (first.size + left) (second.size + left)
            (omega (arith, test_is, count_is, empty)) (omega (arith, test_is, count_is)) on_first on_second

      skipping_follows : Follows T R does short trail
      skipping_follows = record {
        sized = λ b c. omega (arith, length-append test (second.lines b c), S.sized b c);
        closed = λ b c.
            (let addresses = T.addresses comp in
            low_append addresses None test (second.lines b c) ∙
            ap (λ low. low_after addresses low (second.lines b c))
            (low_plainly addresses (choice frame R.places cond)) ∙ S.closed b c);
        goes = does_goes;
        runs = short_comes;
      }

  pub fork_follows : (cond : ℕ) (one two : Codes) (first second : List Code) (fs ss : List Trail) →
      Follows T R one (in_order frame R.places first) (row fs) →
      Follows T R two (in_order frame R.places second) (row ss) → R.plan.needed cond ≡ true →
      Follows T R
      (λ temps s. and_then (read R.activation.here cond temps s) (λ v s. choose v (one temps s) (two temps s)))
      (fork frame R.places cond first second) (trail_step (tac.If cond fs ss))
  unfolding does
  fork_follows cond one two first second fs ss F S need =
      with_kind T R (does cond one two e f fs ss F S need)
      (if length first == 0 && f.size == 1 then skipping frame R.places cond f else choosing frame R.places cond e f)
      (kind_of_fork cond first second) (trail_step (tac.If cond fs ss)) (by (length first == 0 && f.size == 1) refl)
    where
      e : Code
      e = in_order frame R.places first

      f : Code
      f = in_order frame R.places second

      by : (found : Bool) → (length first == 0 && f.size == 1) ≡ found →
          Follows T R (does cond one two e f fs ss F S need)
          (if found then skipping frame R.places cond f else choosing frame R.places cond e f)
          (trail_step (tac.If cond fs ss))
      by true is =
          let none : first ≡ [] = is_empty first (and_first (length first == 0) (f.size == 1) is) in
          let empty : e.size ≡ 0 = ap (λ pieces. (in_order frame R.places pieces).size) none in
          let single : f.size ≡ 1 = eqb-true f.size 1 (and_rest (length first == 0) (f.size == 1) is) in
          skipping_follows cond one two e f fs ss F S need empty single
      by false is = choosing_follows cond one two e f fs ss F S need
