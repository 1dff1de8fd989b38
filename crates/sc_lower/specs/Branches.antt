-- How many branches programs and code have.
use Rattle.sc_lower.specs.Common.{BinaryOp, ProgramTree, TacStmt, TacStmt-F, TypedCall, TypedExpr, TypedFunction}
use Rattle.sc_lower.specs.Common.{TypedKind-F, TypedSection}
use Rattle.sc_lower.specs.Common.{TypedLocal, TypedSimple, TypedSimpleKind, TypedStmt, TypedStmtKind-F, TypedStruct}
use Rattle.sc_lower.specs.Common.{fold-TacStmt, fold-TypedExpr, fold-TypedStmt, total}
use Rattle.std.specs.Prelude.{◌≡◌, ℕ, suc, ◌+◌, List, map, Option, None, Some}
use Rattle.sc_base.specs.declared.op.BinaryOp.TheVariants as op
use Rattle.sc_core.specs.declared.expr.TypedKind.TheOpen as term
use Rattle.sc_core.specs.declared.stmt.TypedStmtKind.TheOpen as layer
use Rattle.sc_core.specs.declared.stmt.TypedSimpleKind.TheVariants as simple
use Rattle.sc_tac.specs.declared.stmt.TacStmt.TheOpen as tac
use Rattle.sc_tac.specs.declared.function.TacFnTree.{TacFnTree}
use Rattle.sc_tac.specs.declared.program.TacSection.{TacSection}
use Rattle.sc_tac.specs.declared.program.TacTree.{TacTree}
use Rattle.sc_lower.specs.Programs.{body_code}

-- CODE
-- the `If`s of a statement, itself included
abbrev pub ifs_step : TacStmt-F ℕ → ℕ
ifs_step (tac.If cond first second) = suc (total first + total second)
ifs_step (tac.Loop head body next) = total head + total body + total next
ifs_step _ = 0

abbrev pub stmt_ifs : TacStmt → ℕ
stmt_ifs = fold-TacStmt ℕ ifs_step

abbrev pub ifs : List TacStmt → ℕ
ifs stmts = total (map stmt_ifs stmts)

-- TREES
-- `&&` and `||` branch
abbrev pub op_branches : BinaryOp → ℕ
op_branches op.AndAlso = 1
op_branches op.OrElse = 1
op_branches o = 0

abbrev pub term_branches : TypedKind-F ℕ ℕ → ℕ
term_branches (term.Literal word) = 0
term_branches (term.Variable v) = 0
term_branches (term.Unary o of) = of
term_branches (term.Binary o left right) = op_branches o + (left + right)
term_branches (term.Index base index) = base + index
term_branches (term.Member base offset) = base
term_branches (term.Arrow base offset) = base
term_branches (term.Deref of) = of
term_branches (term.Address of) = of
term_branches (term.SizeOf cells) = 0

abbrev pub expr_branches : TypedExpr → ℕ
expr_branches = fold-TypedExpr ℕ ℕ term_branches (λ e. e.kind)

abbrev pub call_branches : TypedCall → ℕ
call_branches call = total (map expr_branches call.args)

abbrev pub count_branches : Option TypedExpr → ℕ
count_branches None = 0
count_branches (Some count) = expr_branches count

abbrev pub simple_branches : TypedSimpleKind → ℕ
simple_branches (simple.Assign place value) = expr_branches place + expr_branches value
simple_branches (simple.AssignCall place call) = expr_branches place + call_branches call
simple_branches (simple.Call call) = call_branches call
simple_branches (simple.Malloc place count cells) = expr_branches place + count_branches count
simple_branches (simple.Free pointer) = expr_branches pointer

abbrev pub part_branches : Option TypedSimple → ℕ
part_branches None = 0
part_branches (Some s) = simple_branches s.kind

-- `if`, `while` and `for` branch
abbrev pub kind_branches : TypedStmtKind-F ℕ ℕ → ℕ
kind_branches layer.Empty = 0
kind_branches (layer.Assign place value) = expr_branches place + expr_branches value
kind_branches (layer.AssignCall place call) = expr_branches place + call_branches call
kind_branches (layer.Call call) = call_branches call
kind_branches (layer.Malloc place count cells) = expr_branches place + count_branches count
kind_branches (layer.Free pointer) = expr_branches pointer
kind_branches (layer.If cond first second) = suc (expr_branches cond + total first + total second)
kind_branches (layer.While cond body) = suc (expr_branches cond + total body)
kind_branches (layer.For first cond next body) =
    suc (part_branches first + expr_branches cond + part_branches next + total body)
kind_branches layer.Break = 0
kind_branches layer.Continue = 0
kind_branches layer.Return = 0
kind_branches (layer.ReturnValue value) = expr_branches value
kind_branches (layer.ReturnCall call) = call_branches call

abbrev pub stmt_branches : TypedStmt → ℕ
stmt_branches = fold-TypedStmt ℕ ℕ kind_branches (λ s. s.kind)

abbrev pub init_branches : Option TypedExpr → ℕ
init_branches None = 0
init_branches (Some init) = expr_branches init

abbrev pub local_branches : TypedLocal → ℕ
local_branches local = init_branches local.init

-- the `if`, `while`, `for`, `&&` and `||` of a function
abbrev pub branches : TypedFunction → ℕ
branches f = total (map local_branches f.locals) + total (map stmt_branches f.body)

-- The code of a function has exactly one `If` for each.
pub record KeepsBranches : Type 0 where
  pub functions : (structs : List TypedStruct) (f : TypedFunction) → ifs (body_code structs f 0).code ≡ branches f

-- Each function of a program's code has as many `If`s as the function has of them, in order.
pub record HasBranches (program : ProgramTree) (code : TacTree) : Type 0 where
  pub same : map {A = TacSection} (λ section. map {A = TacFnTree} (λ f. ifs f.body) section.functions) code.sections
      ≡ map {A = TypedSection} (λ section. map branches section.functions) program.sections
