-- What the statements of a frame do goes on, as what functions do does: it adds events, gives no turn, and stops by a
-- blame or without turns.
use Rattle.sc_run.proofs.Common.{Acts, Back, Calls, Frame, GoFrom, Goes, Here, Left, List, Loop, Never, Nowhere, Option}
use Rattle.sc_run.proofs.Common.{Place, ProgramTree, State, To, TypedStmt, Value, block_acts, block_does, bodies}
use Rattle.sc_run.proofs.Common.{c_arith, calls_go, calls_in, closes, denotations, here_of, loop, loop_acts, next_acts}
use Rattle.sc_run.proofs.Common.{option_copied, part_does, result_goes, run_step, stays, store_result, test, way_in}
use Rattle.sc_run.proofs.Common.{within_goes, ℕ, ◌≡◌}
use Rattle.sc_core_laws.proofs.Expressions.{ArithKeeps}
use Rattle.sc_core_laws.proofs.InteractionTrees.{MatchWith, match_loop}
use Rattle.sc_core_laws.proofs.Matching.{one_round, loop_again, match_goes, run_goes_on}
use Rattle.sc_core_laws.proofs.Statements.{itself_keeps, program_obeys, test_matches, store_result_matches, way_matches}
use Rattle.sc_core_laws.proofs.Statements.{part_matches, block_matches, closed_matches}

itself : ArithKeeps Never c_arith c_arith
itself = itself_keeps Never c_arith

module _ (program : ProgramTree) (n : ℕ) (f : Frame) where
  abbrev here : Here
  here = here_of f.scope

  calls_go_on : GoFrom here.comp (calls_in program n)
  calls_go_on =
      calls_go (denotations program) (bodies program n) (within_goes (run_step (denotations program))
      (run_goes_on (denotations program) (program_obeys c_arith program)) n) here.comp

  -- statements of the frame, by what calls do
  abbrev IsTree : (Calls → Acts) → Type 0
  IsTree does = MatchWith Never here {A = Unit {0}} does does

  tree_goes : (does : Calls → Acts) → IsTree does → Goes (does (calls_in program n) tt)
  tree_goes does tree = match_goes Never here (λ by. does by tt) (λ by. does by tt) (tree tt) (calls_in program n)
      calls_go_on

  abbrev block_by : List TypedStmt → Calls → Acts
  block_by stmts by = block_does c_arith f.scope.structs.now here f.scope.params by stmts

  block_tree : (stmts : List TypedStmt) → IsTree (block_by stmts)
  block_tree = block_matches Never here c_arith c_arith itself _ _

  pub block_goes : (stmts : List TypedStmt) → Goes (block_acts program n f stmts tt)
  block_goes stmts = tree_goes (block_by stmts) (block_tree stmts)

  module _ (l : Loop) where
    abbrev pub test_by : Calls → Acts
    test_by by = test here (way_in f l.cond.now) l.line

    abbrev next_by : Calls → Acts
    next_by by = part_does c_arith f.scope.structs.now here f.scope.params by (option_copied l.next)

    test_tree : IsTree test_by
    test_tree =
        test_matches Never here (way_in f _) (way_in f _) (way_matches Never here c_arith c_arith itself _ _ _) l.line

    next_tree : IsTree next_by
    next_tree = part_matches Never here c_arith c_arith itself _ _ _

    pub next_goes : Goes (next_acts program n f l tt)
    next_goes = tree_goes next_by next_tree

    pub loop_goes : Goes (loop_acts program n f l tt)
    loop_goes = tree_goes (λ by. loop (test_by by) (block_by l.body.now by) (next_by by)) (match_loop Never here test_by
        test_by (block_by l.body.now) (block_by l.body.now) next_by next_by test_tree (block_tree l.body.now) next_tree)

    -- a loop is a round, and then the loop again
    pub loop_is : (s : State) → loop_acts program n f l tt s ≡ one_round (test_by (calls_in program n))
        (block_acts program n f l.body.now) (next_acts program n f l) (loop_acts program n f l) tt s
    loop_is = loop_again Never here (calls_in program n) calls_go_on test_by (block_by _) next_by test_tree
        (block_tree _) next_tree tt

  pub closes_goes : (left : Left (Unit {0})) → Goes (closes program f left)
  closes_goes left = match_goes Never here _ _ (closed_matches Never here _ _ _ _) (calls_in program n) calls_go_on

  pub result_goes_on : (to : To) (v : Option Value) → Goes (result_goes program f to v)
  result_goes_on Nowhere v = stays _
  result_goes_on (Place place line) v = tree_goes (λ by. store_result here (way_in f _) v line) (store_result_matches
      Never here (way_in f _) (way_in f _) (way_matches Never here c_arith c_arith itself _ _ _) v line)
  result_goes_on Back v = stays _
