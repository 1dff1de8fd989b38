-- How many times a tree names a local beyond the first 16777216. No function that fits does, since it has no
-- more nodes.
use Rattle.sc_lower.specs.Common.{Local, TypedCall, TypedExpr, TypedFunction, TypedKind-F, TypedLocal, TypedSimple}
use Rattle.sc_lower.specs.Common.{TypedSimpleKind, TypedStmt, TypedStmtKind-F, VarRef, fold-TypedExpr, fold-TypedStmt}
use Rattle.sc_lower.specs.Common.{most_nodes, total}
use Rattle.std.specs.Prelude.{ℕ, ◌+◌, if◌then◌else◌, nat_lt, map, Option, None, Some}
use Rattle.sc_core.specs.declared.expr.TypedKind.TheOpen as term
use Rattle.sc_core.specs.declared.stmt.TypedStmtKind.TheOpen as layer
use Rattle.sc_core.specs.declared.stmt.TypedSimpleKind.TheVariants as simple

abbrev pub variable_beyond : VarRef → ℕ
variable_beyond (Local l) = if nat_lt l most_nodes then 0 else 1
variable_beyond _ = 0

abbrev pub term_beyond : TypedKind-F ℕ ℕ → ℕ
term_beyond (term.Literal word) = 0
term_beyond (term.Variable v) = variable_beyond v
term_beyond (term.Unary o of) = of
term_beyond (term.Binary o left right) = left + right
term_beyond (term.Index base index) = base + index
term_beyond (term.Member base offset) = base
term_beyond (term.Arrow base offset) = base
term_beyond (term.Deref of) = of
term_beyond (term.Address of) = of
term_beyond (term.SizeOf cells) = 0

abbrev pub expr_beyond : TypedExpr → ℕ
expr_beyond = fold-TypedExpr ℕ ℕ term_beyond (λ e. e.kind)

abbrev pub call_beyond : TypedCall → ℕ
call_beyond call = total (map expr_beyond call.args)

abbrev pub count_beyond : Option TypedExpr → ℕ
count_beyond None = 0
count_beyond (Some count) = expr_beyond count

abbrev pub simple_beyond : TypedSimpleKind → ℕ
simple_beyond (simple.Assign place value) = expr_beyond place + expr_beyond value
simple_beyond (simple.AssignCall place call) = expr_beyond place + call_beyond call
simple_beyond (simple.Call call) = call_beyond call
simple_beyond (simple.Malloc place count cells) = expr_beyond place + count_beyond count
simple_beyond (simple.Free pointer) = expr_beyond pointer

abbrev pub part_beyond : Option TypedSimple → ℕ
part_beyond None = 0
part_beyond (Some s) = simple_beyond s.kind

abbrev pub kind_beyond : TypedStmtKind-F ℕ ℕ → ℕ
kind_beyond layer.Empty = 0
kind_beyond (layer.Assign place value) = expr_beyond place + expr_beyond value
kind_beyond (layer.AssignCall place call) = expr_beyond place + call_beyond call
kind_beyond (layer.Call call) = call_beyond call
kind_beyond (layer.Malloc place count cells) = expr_beyond place + count_beyond count
kind_beyond (layer.Free pointer) = expr_beyond pointer
kind_beyond (layer.If cond first second) = expr_beyond cond + total first + total second
kind_beyond (layer.While cond body) = expr_beyond cond + total body
kind_beyond (layer.For first cond next body) = part_beyond first + expr_beyond cond + part_beyond next + total body
kind_beyond layer.Break = 0
kind_beyond layer.Continue = 0
kind_beyond layer.Return = 0
kind_beyond (layer.ReturnValue value) = expr_beyond value
kind_beyond (layer.ReturnCall call) = call_beyond call

abbrev pub stmt_beyond : TypedStmt → ℕ
stmt_beyond = fold-TypedStmt ℕ ℕ kind_beyond (λ s. s.kind)

abbrev pub init_beyond : Option TypedExpr → ℕ
init_beyond None = 0
init_beyond (Some init) = expr_beyond init

abbrev pub local_beyond : TypedLocal → ℕ
local_beyond local = init_beyond local.init

-- in the initialisers and in the body
abbrev pub beyond : TypedFunction → ℕ
beyond f = total (map local_beyond f.locals) + total (map stmt_beyond f.body)
