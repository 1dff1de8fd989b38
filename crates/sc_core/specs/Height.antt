-- How high a typed tree is: a leaf is 1 high, and any other expression or statement is one higher than its highest
-- part.
use Rattle.std.specs.Prelude.{ℕ, suc, max, List, [], ◌∷◌, map, Option, Some, None}
use Rattle.sc_core.specs.declared.expr.TypedExpr.{TypedExpr, fold-TypedExpr}
use Rattle.sc_core.specs.declared.expr.TypedKind.{TypedKind-F}
use Rattle.sc_core.specs.declared.expr.TypedKind.TheOpen as term
use Rattle.sc_core.specs.declared.expr.TypedCall.{TypedCall}
use Rattle.sc_core.specs.declared.stmt.TypedStmt.{TypedStmt, fold-TypedStmt}
use Rattle.sc_core.specs.declared.stmt.TypedStmtKind.{TypedStmtKind-F}
use Rattle.sc_core.specs.declared.stmt.TypedStmtKind.TheOpen as layer
use Rattle.sc_core.specs.declared.stmt.TypedSimple.{TypedSimple}
use Rattle.sc_core.specs.declared.stmt.TypedSimpleKind.{TypedSimpleKind}
use Rattle.sc_core.specs.declared.stmt.TypedSimpleKind.TheVariants as simple

-- the greatest of the heights, 0 where there is none
abbrev pub highest : List ℕ → ℕ
highest [] = 0
highest (height ∷ rest) = max height (highest rest)

abbrev pub term_height : TypedKind-F ℕ ℕ → ℕ
term_height (term.Literal word) = 1
term_height (term.Variable v) = 1
term_height (term.Unary o of) = suc of
term_height (term.Binary o left right) = suc (max left right)
term_height (term.Index base index) = suc (max base index)
term_height (term.Member base offset) = suc base
term_height (term.Arrow base offset) = suc base
term_height (term.Deref of) = suc of
term_height (term.Address of) = suc of
term_height (term.SizeOf cells) = 1

abbrev pub expr_height : TypedExpr → ℕ
expr_height = fold-TypedExpr ℕ ℕ term_height (λ e. e.kind)

-- a call adds no level to its statement
abbrev pub call_height : TypedCall → ℕ
call_height call = highest (map expr_height call.args)

abbrev pub count_height : Option TypedExpr → ℕ
count_height None = 0
count_height (Some count) = expr_height count

-- the height of the highest part, 0 where a statement has none
abbrev pub simple_height : TypedSimpleKind → ℕ
simple_height (simple.Assign place value) = max (expr_height place) (expr_height value)
simple_height (simple.AssignCall place call) = max (expr_height place) (call_height call)
simple_height (simple.Call call) = call_height call
simple_height (simple.Malloc place count cells) = max (expr_height place) (count_height count)
simple_height (simple.Free pointer) = expr_height pointer

abbrev pub part_height : Option TypedSimple → ℕ
part_height None = 0
part_height (Some s) = suc (simple_height s.kind)

abbrev pub kind_height : TypedStmtKind-F ℕ ℕ → ℕ
kind_height (layer.Assign place value) = max (expr_height place) (expr_height value)
kind_height (layer.AssignCall place call) = max (expr_height place) (call_height call)
kind_height (layer.Call call) = call_height call
kind_height (layer.Malloc place count cells) = max (expr_height place) (count_height count)
kind_height (layer.Free pointer) = expr_height pointer
kind_height (layer.If cond first second) = max (expr_height cond) (max (highest first) (highest second))
kind_height (layer.While cond body) = max (expr_height cond) (highest body)
kind_height (layer.For first cond next body) = max (max (part_height first) (part_height next))
    (max (expr_height cond) (highest body))
kind_height (layer.ReturnValue value) = expr_height value
kind_height (layer.ReturnCall call) = call_height call
kind_height _ = 0

abbrev pub stmt_height : TypedStmt → ℕ
stmt_height = fold-TypedStmt ℕ ℕ kind_height (λ s. suc s.kind)
