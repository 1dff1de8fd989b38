-- Heads that end with the test of their loop: after each statement before it the next one is done, and the test leads
-- back to the body.
use Rattle.sc_emit.proofs.Common.{Ahead, All, Arrives, ArrivesLate, Bne, Bool, Branch, Break, CallTarget, Calls, Cause}
use Rattle.sc_emit.proofs.Common.{CodeAt, Codes, Continue, Cross, Each, Ends, Err, Exit, ExitGives, Fetches, Follows}
use Rattle.sc_emit.proofs.Common.{FrameTree, Gives, Goes, Gone, HeadComes, HeadFollows, Here, InParts, Input, Inside}
use Rattle.sc_emit.proofs.Common.{Instr, IsClear, IsInside, IsRunning, IsTested, Joint, Leads, Left, Line, List, Lives}
use Rattle.sc_emit.proofs.Common.{Next, None, Ok, Option, Output, Overflows, Own, Piece, Place, Plan, Reached, Ready}
use Rattle.sc_emit.proofs.Common.{Registers, Result, Return, Running, Setting, Some, Standpoint, Starts, State as Meant}
use Rattle.sc_emit.proofs.Common.{Stopped, TacStmt, TacStmt-F, TempSet, Temps, Trail, Value, Walks, [], add_word}
use Rattle.sc_emit.proofs.Common.{ahead_at, all_do, all_plain, all_prefix, and_parts, and_then, ap, append_assoc, ap₂}
use Rattle.sc_emit.proofs.Common.{arith, back_to, branch_back, branch_reach, call_does, choose, code_inside, code_step}
use Rattle.sc_emit.proofs.Common.{completed, computed, each_plain, effect_still, elements_allocated, emits_after}
use Rattle.sc_emit.proofs.Common.{emits_here, ends_of, eq-eqb, false, first_scratch, fold-roll-TacStmt}
use Rattle.sc_emit.proofs.Common.{follow as then_follow, follow_goes, freed, gets, if◌then◌else◌, in_loop, in_parts}
use Rattle.sc_emit.proofs.Common.{inl, inr, is_plain, is_true, jump_back, kind_is, kind_of, known as is_known}
use Rattle.sc_emit.proofs.Common.{layer_kind, leads_then, leads_then_steps, leave, length, length-map, live_before}
use Rattle.sc_emit.proofs.Common.{load, low_plainly, lt-ltb, machine, map, map-TacStmt, map-append, moved, neg_ℤ}
use Rattle.sc_emit.proofs.Common.{operand, operated, or_left, or_right, overflows_with, plain, plain_fork, plainly}
use Rattle.sc_emit.proofs.Common.{plainly_at, pos, read, read_all, readings, ready_less, received, refl, released}
use Rattle.sc_emit.proofs.Common.{roll-TacStmt, rounds, row, row_first, row_points, second, seen_from, select, stays}
use Rattle.sc_emit.proofs.Common.{stmt_does, stmt_induction, store, stored, subst, suc, sym, take, test_stmt, testing}
use Rattle.sc_emit.proofs.Common.{then_from, trail, trail_step, true, turn, with_memory, with_temp, word_at, word_of}
use Rattle.sc_emit.proofs.Common.{wrapping, zero, ℕ, ℤ, ⊎_elim, ◌*◌, ◌++◌, ◌+◌, ◌<◌, ◌==◌, ◌∙◌, ◌∷◌, ◌≡◌, ◌≤◌}
use Rattle.sc_core.specs.Prelude.{in_order as one_by_one, take as take_route}
use Rattle.sc_emit_select.specs.Prelude.{Piece as Code}
use Rattle.sc_tac.specs.declared.stmt.TacStmt.TheOpen as tac
use Rattle.std.proofs.Math.Path.{fun_ext}
use Rattle.sc_emit.proofs.Choices.{Branches, branch_goes, branch_moves, branch_passes, held}
use Rattle.sc_emit.proofs.Straight.{read_goes}

-- PLAIN STATEMENTS
-- the next statement is done, or control leaves the function
abbrev pub goes_on : Exit → Bool
goes_on Next = true
goes_on Break = false
goes_on Continue = false
goes_on (Return v) = true

abbrev pub GoesOn : Piece (Left Temps) → Type 0
GoesOn (Reached l s) = goes_on l.exit ≡ true
GoesOn (Stopped end s) = Unit {0}

-- whatever they begin with
abbrev pub AlwaysOn : Codes → Type 0
AlwaysOn codes = (temps : Temps) (s : Meant) → GoesOn (codes temps s)

then_on : {V : Type 0} (piece : Piece V) (go : V → Meant → Piece (Left Temps)) →
    ((v : V) (s : Meant) → GoesOn (go v s)) → GoesOn (and_then piece go)
then_on (Reached v s) go h = h v s
then_on (Stopped end s) go h = tt

follow_on : (piece : Piece (Left Temps)) (rest : Codes) → GoesOn piece → AlwaysOn rest →
    GoesOn (then_follow one_by_one piece rest)
follow_on (Stopped end s) rest h later = tt
follow_on (Reached l s) rest h later = by l.exit h
  where
    by : (exit : Exit) → goes_on exit ≡ true → GoesOn (take_route (one_by_one exit) rest l.carried s)
    by Next h = later l.carried s
    by Break h = cc h
    by Continue h = cc h
    by (Return v) h = refl

-- after a part of a loop, whatever it leaves by
round_on : (piece : Piece (Left Temps)) (rest : Codes) → AlwaysOn rest → GoesOn (then_follow in_loop piece rest)
round_on (Stopped end s) rest later = tt
round_on (Reached l s) rest later = by l.exit
  where
    by : (exit : Exit) → GoesOn (take_route (in_loop exit) rest l.carried s)
    by Next = later l.carried s
    by Break = refl
    by Continue = later l.carried s
    by (Return v) = refl

rounds_on : (head body next : Codes) (k : ℕ) → AlwaysOn (rounds k head body next)
rounds_on head body next zero temps s = tt
rounds_on head body next (suc k) temps s =
    round_on (head temps s)
    (λ temps s. and_then (turn s)
    (λ u s. then_follow in_loop (body temps s) (λ temps s. then_follow in_loop (next temps s)
    (rounds k head body next))))
    (λ temps s. then_on (turn s)
    (λ u s. then_follow in_loop (body temps s) (λ temps s. then_follow in_loop (next temps s)
    (rounds k head body next)))
    (λ u s. round_on (body temps s) (λ temps s. then_follow in_loop (next temps s) (rounds k head body next))
    (λ temps s. round_on (next temps s) (rounds k head body next) (rounds_on head body next k))))

module _ (frame : FrameTree) (places : List Place) (plan : Plan) (here : Here) (calls : Calls) where
  abbrev does : TacStmt → Codes
  does = stmt_does wrapping here calls

  abbrev layer_does : TacStmt-F TacStmt → Codes
  layer_does layer = code_step wrapping here calls (map-TacStmt _ _ does layer)

  abbrev IsPlain : TacStmt → Type 0
  IsPlain stmt = is_plain (kind_of frame places plan stmt) ≡ true

  gets_on : (dest : ℕ) (result : Result Value Cause) → AlwaysOn (gets here dest result)
  gets_on dest (Ok v) temps s = refl
  gets_on dest (Err cause) temps s = tt

  stored_on : (q v : Value) → AlwaysOn (stored here q v 0)
  stored_on q v temps s =
      then_on (computed here 0 (store (s.memory here.comp) q v) s)
      (λ blocks s. leave Next temps (with_memory here.comp blocks s)) (λ blocks s. refl)

  call_on : (dest : Option ℕ) (target : CallTarget) (args : List ℕ) → AlwaysOn (call_does here calls dest target args)
  call_on dest target args temps s =
      then_on (read_all here args temps s)
      (λ vs s. and_then (calls here.comp target vs s) (λ result s. leave Next (received dest result temps) s))
      (λ vs s. then_on (calls here.comp target vs s) (λ result s. leave Next (received dest result temps) s)
      (λ result s. refl))

  chosen_on : (b : Bool) (one two : Piece (Left Temps)) → GoesOn one → GoesOn two → GoesOn (if b then one else two)
  chosen_on true one two h k = h
  chosen_on false one two h k = k

  each_goes_on : (stmts : List TacStmt) → Each (λ stmt. IsPlain stmt → AlwaysOn (does stmt)) stmts →
      Each IsPlain stmts → AlwaysOn (all_do (map does stmts))
  each_goes_on [] each plain temps s = refl
  each_goes_on (stmt ∷ rest) each plain temps s =
      follow_on (does stmt temps s) (all_do (map does rest)) (each.0 plain.0 temps s)
      (each_goes_on rest each.1 plain.1)

  -- a statement by its outermost layer
  layer_goes_on : (layer : TacStmt-F TacStmt) → Inside (λ stmt. IsPlain stmt → AlwaysOn (does stmt)) layer →
      is_plain (layer_kind frame places plan layer) ≡ true → AlwaysOn (layer_does layer)
  layer_goes_on (tac.Const dest value) inside h temps s = refl
  layer_goes_on (tac.Copy dest from) inside h temps s =
      then_on (read here from temps s) (λ v s. leave Next (with_temp dest v temps) s) (λ v s. refl)
  layer_goes_on (tac.Op dest o left right) inside h temps s =
      then_on (read here left temps s)
      (λ v s. and_then (second here right v temps s) (λ w s. gets here dest (operated wrapping (s.memory here.comp) o v
      w) temps s))
      (λ v s. then_on (second here right v temps s)
      (λ w s. gets here dest (operated wrapping (s.memory here.comp) o v w) temps s)
      (λ w s. gets_on dest (operated wrapping (s.memory here.comp) o v w) temps s))
  layer_goes_on (tac.ObjectPlace dest object) inside h temps s = refl
  layer_goes_on (tac.GlobalPlace dest global) inside h temps s = refl
  layer_goes_on (tac.Load dest place pointer) inside h temps s =
      then_on (read here place temps s) (λ q s. gets here dest (load (s.memory here.comp) pointer q) temps s)
      (λ q s. gets_on dest (load (s.memory here.comp) pointer q) temps s)
  layer_goes_on (tac.Store place value) inside h temps s =
      then_on (read here place temps s)
      (λ q s. and_then (read here value temps s) (λ v s. stored here q v 0 temps s))
      (λ q s. then_on (read here value temps s) (λ v s. stored here q v 0 temps s) (λ v s. stored_on q v temps s))
  layer_goes_on (tac.If cond first second) inside h temps s =
      let both = sym (plain_fork frame places plan cond (map (select frame places plan) first)
      (map (select frame places plan) second)) ∙ h in
      let parts = and_parts (all_plain (map (select frame places plan) first))
      (all_plain (map (select frame places plan) second)) both in
      then_on (read here cond temps s)
      (λ v s. choose v (all_do (map does first) temps s) (all_do (map does second) temps s))
      (λ v s. chosen_on (is_true v) (all_do (map does first) temps s) (all_do (map does second) temps s)
      (each_goes_on first inside.0 (each_plain frame places plan first parts.0) temps s)
      (each_goes_on second inside.1 (each_plain frame places plan second parts.1) temps s))
  layer_goes_on (tac.Loop head body next) inside h temps s =
      rounds_on (all_do (map does head)) (all_do (map does body)) (all_do (map does next)) (suc s.turns) temps s
  layer_goes_on tac.Break inside h temps s = cc h
  layer_goes_on tac.Continue inside h temps s = cc h
  layer_goes_on (tac.CallOwn dest function args) inside h temps s = call_on dest (Own function) args temps s
  layer_goes_on (tac.CallCross dest comp index args) inside h temps s = call_on dest (Cross comp index) args temps s
  layer_goes_on (tac.Input dest) inside h temps s = call_on dest Input [] temps s
  layer_goes_on (tac.Output value) inside h temps s = call_on None Output (value ∷ []) temps s
  layer_goes_on (tac.Alloc dest count words) inside h temps s =
      then_on (read here count temps s)
      (λ v s. and_then (elements_allocated here v words 0 s) (λ q s. leave Next (with_temp dest q temps) s))
      (λ v s. then_on (elements_allocated here v words 0 s) (λ q s. leave Next (with_temp dest q temps) s)
      (λ q s. refl))
  layer_goes_on (tac.Free pointer) inside h temps s =
      then_on (read here pointer temps s) (λ v s. released here v 0 temps s)
      (λ v s. then_on (computed here 0 (freed (s.memory here.comp) v) s)
      (λ blocks s. leave Next temps (with_memory here.comp blocks s)) (λ blocks s. refl))
  layer_goes_on (tac.Return None) inside h temps s = refl
  layer_goes_on (tac.Return (Some t)) inside h temps s =
      then_on (read here t temps s) (λ v s. leave (Return (Some v)) temps s) (λ v s. refl)

  -- a plain statement, and statements that are plain
  pub plain_goes_on : (stmt : TacStmt) → IsPlain stmt → AlwaysOn (does stmt)
  plain_goes_on = stmt_induction (λ stmt. IsPlain stmt → AlwaysOn (does stmt)) (λ layer inside h.
      subst AlwaysOn (sym (fold-roll-TacStmt Codes (code_step wrapping here calls) layer))
      (layer_goes_on layer inside (sym (ap is_plain (kind_is frame places plan layer)) ∙ h)))

  pub row_goes_on : (stmts : List TacStmt) → Each IsPlain stmts → AlwaysOn (all_do (map does stmts))
  row_goes_on [] plain temps s = refl
  row_goes_on (stmt ∷ rest) plain temps s =
      follow_on (does stmt temps s) (all_do (map does rest)) (plain_goes_on stmt plain.0 temps s)
      (row_goes_on rest plain.1)

-- STATEMENTS, AND OTHERS AFTER THEM
-- what is live before both
first_of_both : (one two : List Trail) (t : ℕ) (ahead : Ahead) →
    row_first (readings t (one ++ two)) ahead ≡
    row_first (readings t one) (record ahead { following = row_first (readings t two) ahead })
first_of_both [] two t ahead = refl
first_of_both (trail ∷ one) two t ahead =
    ap (λ b. (trail.reading t).first (record ahead { following = b })) (first_of_both one two t ahead)

module _ (lives : Lives) (two : List Trail) where
  abbrev before_two : Lives
  before_two = record lives { following = live_before two lives }

  live_of_both : (one : List Trail) → live_before (one ++ two) lives ≡ live_before one before_two
  live_of_both one = fun_ext (λ t. first_of_both one two t (ahead_at lives t))

  points_of_both : (one : List Trail) →
      row_points (one ++ two) lives ≡ row_points one before_two ++ row_points two lives
  points_of_both [] = refl
  points_of_both (trail ∷ one) =
      ap₂ (λ live points. trail.points (record lives { following = live }) ++ points) (live_of_both one)
      (points_of_both one) ∙
      sym (append_assoc (trail.points (record lives { following = live_before one before_two })) (row_points one
      before_two) (row_points two lives))

-- what both do
follow_follow : (piece : Piece (Left Temps)) (one two both : Codes) →
    ((temps : Temps) (s : Meant) → both temps s ≡ then_follow one_by_one (one temps s) two) →
    then_follow one_by_one piece both ≡ then_follow one_by_one (then_follow one_by_one piece one) two
follow_follow (Stopped end s) one two both h = refl
follow_follow (Reached l s) one two both h = by l.exit
  where
    by : (exit : Exit) →
        take_route (one_by_one exit) both l.carried s ≡
        then_follow one_by_one (take_route (one_by_one exit) one l.carried s) two
    by Next = h l.carried s
    by Break = refl
    by Continue = refl
    by (Return v) = refl

do_both : (one two : List Codes) (temps : Temps) (s : Meant) →
    all_do (one ++ two) temps s ≡ then_follow one_by_one (all_do one temps s) (all_do two)
do_both [] two temps s = refl
do_both (does ∷ one) two temps s =
    follow_follow (does temps s) (all_do one) (all_do two) (all_do (one ++ two)) (do_both one two)

-- THE TEST
-- it reads the value, and breaks where that is false
abbrev pub test_trail : ℕ → Trail
test_trail cond = trail_step (tac.If cond [] (trail_step tac.Break ∷ []))

module _ (here : Here) (cond : ℕ) where
  abbrev pub test_does : Codes
  test_does temps s =
      and_then (read here cond temps s) (λ v s. choose v (all_do [] temps s) (all_do (leave Break ∷ []) temps s))

  abbrev pub tests : Codes
  tests = all_do (test_does ∷ [])

  test_goes : (temps : Temps) → Goes (test_does temps)
  test_goes temps =
      read_goes here cond temps (λ v s. choose v (all_do [] temps s) (all_do (leave Break ∷ []) temps s))
      (λ v s. by (is_true v) s)
    where
      by : (b : Bool) (s : Meant) → Gone s (if b then all_do [] temps s else all_do (leave Break ∷ []) temps s)
      by true = stays (record { exit = Next; carried = temps })
      by false = stays (record { exit = Break; carried = temps })

  tests_goes : (temps : Temps) → Goes (tests temps)
  tests_goes temps s =
      follow_goes one_by_one s (test_does temps s) (all_do []) (test_goes temps s)
      (λ temps. stays (record { exit = Next; carried = temps }))

  -- statements, and the test after them
  abbrev pub then_test : Codes → Codes
  then_test first temps s = then_follow one_by_one (first temps s) tests

module _ {T : Setting} {R : Running} (valid : IsRunning T R) where
  abbrev frame : FrameTree
  frame = R.activation.frame

  abbrev P : Standpoint
  P = seen_from R.activation

  abbrev comp : ℕ
  comp = R.activation.here.comp

  module _ (cond : ℕ) (need : R.plan.needed cond ≡ true) (first : Codes) (i : Code) (trails : List Trail)
      (I : Follows T R first i (row trails)) (on : AlwaysOn first) (body_lines : ℕ)
      (near : body_lines + i.size + length (take frame R.places first_scratch cond) < branch_reach) where
    abbrev before : List Instr
    before = take frame R.places first_scratch cond

    abbrev test_size : ℕ
    test_size = suc (length before)

    abbrev back_lines : ℕ
    back_lines = body_lines + i.size + length before

    -- the branch back to the body
    abbrev back : ℤ
    back = neg_ℤ (pos (4 * back_lines))

    abbrev branch : Instr
    branch = Branch Bne (operand frame R.places first_scratch cond) 0 back

    abbrev hs : List Trail
    hs = trails ++ (test_trail cond ∷ [])

    abbrev test : Codes
    test = tests R.activation.here cond

    -- the body is near enough for it
    is_branch : branch_back frame R.places cond back_lines ≡ plain branch
    is_branch =
        ap (λ b. if b then plain branch else jump_back back_lines) (lt-ltb back_lines branch_reach near)

    module _ (lives : Lives) (temps : Temps) (x : Joint) (left body_pc : ℕ)
        (ready : Ready T R (live_before hs lives) temps x) (clear : All (IsClear R.places) (row_points hs lives))
        (code : CodeAt T.image comp x.pc (completed (T.addresses comp) x.pc None
        (i.lines test_size 0 ++ testing frame R.places cond (body_lines + i.size))))
        (place : x.pc ≡ body_pc + 4 * body_lines) (w : ℕ) (there : word_at T.image comp body_pc ≡ Some w)
        (last : x.pc + 4 * (i.size + test_size) ≤ R.last) where
      abbrev budget : ℕ
      budget = i.size + (test_size + left)

      abbrev ends : Ends
      ends = record {
        left = left;
        following = body_pc;
        broken = x.pc + 4 * (i.size + test_size);
        continued = body_pc;
      }

      -- what is live before the test
      abbrev live : TempSet
      live = live_before (test_trail cond ∷ []) lives

      abbrev inner : Lives
      inner = record lives { following = live }

      cond_live : live cond ≡ true
      cond_live = or_left (cond == cond) _ (eq-eqb cond cond refl)

      after_live : (t : ℕ) → lives.following t ≡ true → live t ≡ true
      after_live t on = or_right (cond == t) _ (or_left (lives.following t) (lives.broken t) on)

      broken_live : (t : ℕ) → lives.broken t ≡ true → live t ≡ true
      broken_live t on = or_right (cond == t) _ (or_right (lives.following t) (lives.broken t) on)

      -- where the test stands
      abbrev test_pc : ℕ
      test_pc = x.pc + 4 * i.size

      parts : InParts (T.addresses comp) T.image comp x.pc (i.lines test_size 0)
          (testing frame R.places cond (body_lines + i.size))
      parts =
          in_parts (T.addresses comp) T.image comp x.pc (i.lines test_size 0)
          (testing frame R.places cond (body_lines + i.size)) (I.closed test_size 0) code

      branches : Branches valid cond back test_pc
      branches =
          let addresses = T.addresses comp in
          let lines : List Line = plainly before ++ plain branch ∷ [] in
          let e : x.pc + 4 * length (i.lines test_size 0) ≡ test_pc = ap (λ k. x.pc + 4 * k) (I.sized test_size 0) in
          let whole : CodeAt T.image comp test_pc (completed addresses test_pc None lines) =
          subst (λ line. CodeAt T.image comp test_pc (completed addresses test_pc None (plainly before ++ line ∷ [])))
          is_branch (subst (λ pc. CodeAt T.image comp pc (completed addresses pc None
          (testing frame R.places cond (body_lines + i.size)))) e parts.back) in
          let two : InParts addresses T.image comp test_pc (plainly before) (plain branch ∷ []) =
          in_parts addresses T.image comp test_pc (plainly before) (plain branch ∷ []) (low_plainly addresses before)
          whole in
          record {
            takes = plainly_at addresses T.image comp test_pc before two.prefix;
            branches = subst (λ k. Fetches T.image comp (test_pc + 4 * k) branch) (length-map before plain) two.back.0;
          }

      -- the statements before the test begin
      starts : Starts T R i (row trails) inner temps x test_size 0
      starts = record {
        ready = subst (λ live. Ready T R live temps x) (live_of_both lives (test_trail cond ∷ []) trails) ready;
        clear =
            all_prefix (IsClear R.places) (row_points trails inner) (row_points (test_trail cond ∷ []) lives)
            (subst (All (IsClear R.places)) (points_of_both lives (test_trail cond ∷ []) trails) clear);
        stands = parts.prefix;
        breaks = last;
        continues = omega (arith, last);
      }

      -- control has come to the test
      module _ (temps' : Temps) (s : Meant)
          (g : Arrives T R live x budget (test_size + left) temps' s test_pc) where
        abbrev y : Joint
        y = g.y

        code_here : Branches valid cond back y.pc
        code_here = subst (Branches valid cond back) (sym g.pc_is) branches

        abbrev branch_pc : ℕ
        branch_pc = y.pc + 4 * length before

        module _ (v : Value) (known : temps' cond ≡ Some v) where
          abbrev after : Registers
          after = (held valid cond back live temps' y g.ready code_here cond_live need v known).after

          abbrev at_pc : (pc : ℕ) → Joint
          at_pc pc = moved y pc after y.bytes

          -- by the steps of the test, of which the last one leads to this pc
          abbrev Tested : (pc : ℕ) → Type 0
          Tested pc = Walks T.image T.inputs (length before + 1) (machine P y) (machine P (at_pc pc))

          abbrev tested_leads : (pc : ℕ) → Tested pc → Leads T P y (at_pc pc) (test_size + left) left
          tested_leads pc walks = record {
            steps = length before + 1;
            run = walks;
            costs = record { least = omega arith; most = λ all. omega arith };
            effect = effect_still T P y pc after;
          }

          arrives : (less : TempSet) (pc : ℕ) → ((t : ℕ) → less t ≡ true → live t ≡ true) → Tested pc →
              Arrives T R less x budget left temps' y.meant pc
          arrives less pc fewer walks = record {
            y = at_pc pc;
            meant_is = refl;
            pc_is = refl;
            leads = leads_then T P x y (at_pc pc) budget (test_size + left) left ready.settled g.leads
                (tested_leads pc walks);
            ready = ready_less T R live less temps' (at_pc pc) fewer
                (branch_moves valid cond back live temps' y g.ready code_here
                cond_live need v known pc left walks).ready;
          }

          -- the branch is a step more than what came before has turns
          arrives_late : (less : TempSet) (pc : ℕ) → ((t : ℕ) → less t ≡ true → live t ≡ true) → Tested pc →
              ArrivesLate T R less x budget left temps' y.meant pc
          unfolding arrives
          arrives_late less pc fewer walks =
              let steps : (leads_then T P x y (at_pc pc) budget (test_size + left) left ready.settled g.leads
              (tested_leads pc walks)).steps ≡ g.leads.steps + (length before + 1) =
              leads_then_steps T P x y (at_pc pc) budget (test_size + left) left ready.settled g.leads
              (tested_leads pc walks) in
              record {
                arrives = arrives less pc fewer walks;
                spare = omega (arith, g.leads.costs.least, steps);
              }

          -- the value is true: back to the body
          goes_back : is_true v ≡ true → ArrivesLate T R lives.following x budget left temps' y.meant body_pc
          goes_back true_is =
              let here : IsInside branch_pc = code_inside T.image valid.formed comp branch_pc code_here.branches.word
              code_here.branches.fetched in
              let body : IsInside body_pc = code_inside T.image valid.formed comp body_pc w there in
              let target : add_word branch_pc (word_of back) ≡ body_pc =
              back_to branch_pc back_lines (omega (arith, g.pc_is, place)) (omega (arith, here.low)) ∙
              omega (arith, g.pc_is, place) in
              arrives_late lives.following body_pc after_live
              (branch_goes valid cond back live temps' y g.ready code_here
              cond_live need v known body_pc w true_is target body.aligned there)

          -- it is false: after the loop
          goes_out : is_true v ≡ false → Arrives T R lives.broken x budget left temps' y.meant ends.broken
          goes_out false_is =
              let following : branch_pc + 4 ≡ ends.broken = omega (arith, g.pc_is) in
              subst (Arrives T R lives.broken x budget left temps' y.meant) following
              (arrives lives.broken (branch_pc + 4) broken_live
              (branch_passes valid cond back live temps' y g.ready code_here cond_live need v known false_is))

        -- by what the value is
        by_value : (v : Value) (known : temps' cond ≡ Some v) (b : Bool) → is_true v ≡ b →
            HeadComes T R lives x budget ends
            (then_follow one_by_one (if b then all_do [] temps' y.meant else all_do (leave Break ∷ []) temps' y.meant)
            (all_do []))
        by_value v known true e = inl (goes_back v known e)
        by_value v known false e = inl (goes_out v known e)

        by_known : (o : Option Value) → temps' cond ≡ o →
            HeadComes T R lives x budget ends
            (then_follow one_by_one (and_then (computed R.activation.here 0 (is_known o) y.meant)
            (λ v s. choose v (all_do [] temps' s) (all_do (leave Break ∷ []) temps' s))) (all_do []))
        by_known None e =
            inl (emits_after T P x y budget (test_size + left) y.meant g.leads (emits_here T P y (test_size + left)))
        by_known (Some v) e = by_value v e (is_true v) refl

        test_comes : HeadComes T R lives x budget ends (test temps' s)
        test_comes =
            subst (λ s. HeadComes T R lives x budget ends (test temps' s)) g.meant_is (by_known (temps' cond) refl)

      -- what comes of the statements before the test, and then of the test
      onwards : (exit : Exit) (temps' : Temps) (s : Meant) → goes_on exit ≡ true →
          ExitGives T R inner x budget (ends_of i x.pc (test_size + left) test_size 0) exit temps' s →
          HeadComes T R lives x budget ends (take_route (one_by_one exit) test temps' s)
      onwards Next temps' s h g = test_comes temps' s g
      onwards Break temps' s h g = cc h
      onwards Continue temps' s h g = cc h
      onwards (Return v) temps' s h g = inl g

      after_first : (piece : Piece (Left Temps)) → GoesOn piece →
          Gives T R inner x budget (ends_of i x.pc (test_size + left) test_size 0) piece →
          HeadComes T R lives x budget ends (then_follow one_by_one piece test)
      after_first (Reached l s) h g = onwards l.exit l.carried s h g
      after_first (Stopped end s) h g = inl g

      overflow_first : (piece : Piece (Left Temps)) → Overflows T P x budget piece →
          Overflows T P x budget (then_follow one_by_one piece test)
      overflow_first piece o =
          overflows_with T P x budget budget piece (then_follow one_by_one piece test) (omega arith)
          (then_from piece (λ l. take_route (one_by_one l.exit) test l.carried) (λ l. taken l.exit l.carried)) o
        where
          taken : (exit : Exit) (temps : Temps) → Goes (take_route (one_by_one exit) test temps)
          taken Next temps = tests_goes R.activation.here cond temps
          taken Break temps = stays (record { exit = Break; carried = temps })
          taken Continue temps = stays (record { exit = Continue; carried = temps })
          taken (Return v) temps = stays (record { exit = Return v; carried = temps })

      head_runs : HeadComes T R lives x budget ends (then_test R.activation.here cond first temps x.meant)
      head_runs =
          ⊎_elim (λ g. after_first (first temps x.meant) (on temps x.meant) g)
          (λ o. inr (overflow_first (first temps x.meant) o))
          (I.runs inner temps x (test_size + left) test_size 0 starts)

    pub head_follows : HeadFollows T R cond (then_test R.activation.here cond first) i hs body_lines
    head_follows = record {
      sized = I.sized test_size 0;
      closed = I.closed test_size 0;
      goes = λ temps s. follow_goes one_by_one s (first temps s) test (I.goes temps s)
          (tests_goes R.activation.here cond);
      runs = head_runs;
    }

  -- A HEAD THAT ENDS WITH ITS TEST
  module _ (calls : Calls) (cond : ℕ) (need : R.plan.needed cond ≡ true) (head : List TacStmt)
      (t : IsTested frame R.places R.plan head cond) where
    abbrev its : TacStmt → Codes
    its = stmt_does wrapping R.activation.here calls

    abbrev by_layer : TacStmt-F Codes → Codes
    by_layer = code_step wrapping R.activation.here calls

    abbrev break_stmt : TacStmt
    break_stmt = roll-TacStmt tac.Break

    its_test : its (test_stmt cond) ≡ test_does R.activation.here cond
    its_test =
        fold-roll-TacStmt Codes by_layer (tac.If cond [] (break_stmt ∷ [])) ∙
        ap (λ does. by_layer (tac.If cond [] (does ∷ []))) (fold-roll-TacStmt Codes by_layer tac.Break)

    its_trail : trail (test_stmt cond) ≡ test_trail cond
    its_trail =
        fold-roll-TacStmt Trail trail_step (tac.If cond [] (break_stmt ∷ [])) ∙
        ap (λ trail. trail_step (tac.If cond [] (trail ∷ []))) (fold-roll-TacStmt Trail trail_step tac.Break)

    all_its : map its head ≡ map its t.init ++ (test_does R.activation.here cond ∷ [])
    all_its =
        ap (map its) t.is ∙ map-append its t.init (test_stmt cond ∷ []) ∙
        ap (λ does. map its t.init ++ (does ∷ [])) its_test

    all_trails : map trail head ≡ map trail t.init ++ (test_trail cond ∷ [])
    all_trails =
        ap (map trail) t.is ∙ map-append trail t.init (test_stmt cond ∷ []) ∙
        ap (λ trails. map trail t.init ++ (trails ∷ [])) its_trail

    head_does : all_do (map its head) ≡ then_test R.activation.here cond (all_do (map its t.init))
    head_does =
        ap all_do all_its ∙
        fun_ext (λ temps. fun_ext (λ s. do_both (map its t.init) (test_does R.activation.here cond ∷ []) temps s))

    pub head_of_stmts : (i : Code) → Follows T R (all_do (map its t.init)) i (row (map trail t.init)) →
        (body_lines : ℕ) →
        body_lines + i.size + length (take frame R.places first_scratch cond) < branch_reach →
        HeadFollows T R cond (all_do (map its head)) i (map trail head) body_lines
    head_of_stmts i I body_lines near =
        subst (λ does. HeadFollows T R cond does i (map trail head) body_lines) (sym head_does)
        (subst (λ trails. HeadFollows T R cond (then_test R.activation.here cond (all_do (map its t.init))) i trails
        body_lines) (sym all_trails)
        (head_follows cond need (all_do (map its t.init)) i (map trail t.init) I
        (row_goes_on frame R.places R.plan R.activation.here calls t.init t.plain) body_lines near))
