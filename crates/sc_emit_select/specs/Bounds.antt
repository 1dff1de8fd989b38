-- Helping: what the jumps of code need: distances that a JAL can hold.
use Rattle.sc_emit_select.specs.Common.{FrameTree, Place, TacStmt, everywhere, passes_few}
use Rattle.std.specs.Prelude.{◌<◌, ℕ, ◌+◌, List, IsTrue, [], ◌∷◌}
use Rattle.sc_emit_select.specs.declared.roles.Role.{Role}
use Rattle.sc_emit_select.specs.Selection.{Plan, between, select, select_all}

-- fewer lines than a jump can lead over: 2 ^ 20 bytes, less its own line
abbrev pub most_lines : ℕ
most_lines = 262143

-- Helping: statements whose jumps lead no further than they may, and whose calls have registers for their arguments
pub record Fits (frame : FrameTree) (places : List Place) (plan : Plan) (stmts : List TacStmt)
    (to_break to_continue : ℕ) : Type 0 where
  pub few_arguments : IsTrue (everywhere passes_few stmts)
  pub breaks : (select_all frame places plan stmts).size + to_break < most_lines
  pub continues : (select_all frame places plan stmts).size + to_continue < most_lines

-- Helping: the same of a statement between two others, of which it may be part
pub record FitsBetween (frame : FrameTree) (places : List Place) (plan : Plan) (before : Role) (stmt : TacStmt)
    (following : Role) (to_break to_continue : ℕ) : Type 0 where
  pub few_arguments : IsTrue (everywhere passes_few (stmt ∷ []))
  pub breaks : (between frame places before (select frame places plan stmt) following).size + to_break < most_lines
  pub continues :
      (between frame places before (select frame places plan stmt) following).size + to_continue < most_lines

-- Helping: the parts of a loop, which has `more` lines besides
pub record FitsLoop (frame : FrameTree) (places : List Place) (plan : Plan) (head body next : List TacStmt) (more : ℕ)
    : Type 0 where
  pub few_in_head : IsTrue (everywhere passes_few head)
  pub few_in_body : IsTrue (everywhere passes_few body)
  pub few_in_next : IsTrue (everywhere passes_few next)
  pub reaches :
      more + ((select_all frame places plan head).size + ((select_all frame places plan body).size +
      (select_all frame places plan next).size)) < most_lines
