-- How many `If`s stand in code: nothing else branches.
use Rattle.sc_tac.specs.Common.{total}
use Rattle.std.specs.Prelude.{ℕ, suc, ◌+◌, List, map}
use Rattle.sc_tac.specs.Parts.{parts}
use Rattle.sc_tac.specs.declared.stmt.TacStmt.{TacStmt, TacStmt-F, fold-TacStmt}
use Rattle.sc_tac.specs.declared.stmt.TacStmt.TheOpen as tac

-- of a statement, from those of the statements inside
abbrev pub branch_step : TacStmt-F ℕ → ℕ
branch_step (tac.If cond first second) = suc (total first + total second)
branch_step stmt = total (map total (parts stmt))

abbrev pub stmt_branches : TacStmt → ℕ
stmt_branches = fold-TacStmt ℕ branch_step

-- of statements in order
abbrev pub branches : List TacStmt → ℕ
branches stmts = total (map stmt_branches stmts)
