-- How many instructions a statement takes at most, where each temporary is reached in memory by three instructions.
use Rattle.sc_tac.specs.Common.{total}
use Rattle.std.specs.Prelude.{ℕ, ◌+◌, ◌*◌, List, map, length}
use Rattle.sc_tac.specs.declared.stmt.TacOp.{TacOp}
use Rattle.sc_tac.specs.declared.stmt.TacOp.TheVariants as tacop
use Rattle.sc_tac.specs.declared.stmt.TacStmt.{TacStmt, TacStmt-F, fold-TacStmt}
use Rattle.sc_tac.specs.declared.stmt.TacStmt.TheOpen as tac

-- one operand read, one instruction, the result written; or two read, up to four instructions, and the result
abbrev pub op_weight : TacOp → ℕ
op_weight (tacop.Unary op scalar) = 7
op_weight (tacop.Binary op scalar) = 13
op_weight tacop.PointerNot = 7
op_weight (tacop.PointerMove minus cells index) = 13
op_weight (tacop.PointerMember offset) = 9
op_weight (tacop.PointerDifference cells) = 13
op_weight (tacop.PointerCompare op) = 13

-- each argument is read into its register; then two instructions, and the result written
abbrev pub call_weight : ℕ → ℕ
call_weight args = 3 * args + 5

-- by its kind, its operator or its number of arguments, with what the statements inside weigh
abbrev pub weight_step : TacStmt-F ℕ → ℕ
weight_step (tac.Const dest value) = 5
weight_step (tac.Copy dest from) = 6
weight_step (tac.Op dest op left right) = op_weight op
weight_step (tac.ObjectPlace dest object) = 6
weight_step (tac.GlobalPlace dest global) = 6
weight_step (tac.Load dest place pointer) = 7
weight_step (tac.Store place value) = 7
weight_step (tac.If cond first second) = 6 + total first + total second
weight_step (tac.Loop head body next) = 2 + total head + total body + total next
weight_step tac.Break = 1
weight_step tac.Continue = 1
weight_step (tac.CallOwn dest function args) = call_weight (length args)
weight_step (tac.CallCross dest comp index args) = call_weight (length args)
weight_step (tac.Input dest) = call_weight 0
weight_step (tac.Output value) = call_weight 1
weight_step (tac.Alloc dest count words) = 10
weight_step (tac.Free pointer) = 5
weight_step (tac.Return value) = 8

abbrev pub stmt_weight : TacStmt → ℕ
stmt_weight = fold-TacStmt ℕ weight_step

-- of statements in order
abbrev pub weight : List TacStmt → ℕ
weight stmts = total (map stmt_weight stmts)

-- a function's frame and its closing brace, and each parameter stored in its variable
abbrev pub entry_weight : ℕ → ℕ
entry_weight params = 10 + 3 * params
