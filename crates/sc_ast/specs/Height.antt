-- How high a tree is: a leaf is 1 high, and any other expression or statement is one higher than its highest part.
use Rattle.std.specs.Prelude.{ℕ, ◌+◌, max, min, List, [], ◌∷◌, map, Option, Some, None}
use Rattle.sc_ast.specs.declared.expr.ExprTree.{ExprTree, ExprTree-F, fold-ExprTree}
use Rattle.sc_ast.specs.declared.expr.ExprTree.TheOpen as term
use Rattle.sc_ast.specs.declared.expr.CallTree.{CallTree}
use Rattle.sc_ast.specs.declared.stmt.SimpleKind.{SimpleKind}
use Rattle.sc_ast.specs.declared.stmt.SimpleKind.TheVariants.{Assign, AssignCall, Call, Malloc, Free}
use Rattle.sc_ast.specs.declared.stmt.SimpleTree.{SimpleTree}
use Rattle.sc_ast.specs.declared.stmt.StmtTree.{StmtTree, StmtTree-F, fold-StmtTree}
use Rattle.sc_ast.specs.declared.stmt.StmtKind.{StmtKind, StmtKind-F, fold-StmtKind}
use Rattle.sc_ast.specs.declared.stmt.StmtKind.TheOpen as layer
use Rattle.sc_ast.specs.declared.section.LocalTree.{LocalTree}
use Rattle.sc_ast.specs.declared.section.FunctionTree.{FunctionTree}
use Rattle.sc_ast.specs.declared.section.Decl.{Decl}
use Rattle.sc_ast.specs.declared.section.Decl.TheVariants.{Function}
use Rattle.sc_ast.specs.declared.section.SectionTree.{SectionTree}

-- the greatest of the heights, 0 where there is none
abbrev pub highest : List ℕ → ℕ
highest [] = 0
highest (height ∷ rest) = max height (highest rest)

-- the height of an expression, by the heights of its parts
abbrev pub expr_height_step : ExprTree-F ℕ → ℕ
expr_height_step (term.Literal literal) = 1
expr_height_step (term.Variable name) = 1
expr_height_step (term.Unary op of) = of + 1
expr_height_step (term.Binary op left right) = max left right + 1
expr_height_step (term.Index base index) = max base index + 1
expr_height_step (term.Member base name) = base + 1
expr_height_step (term.Arrow base name) = base + 1
expr_height_step (term.Deref of) = of + 1
expr_height_step (term.Address of) = of + 1
expr_height_step (term.SizeOf of) = 1

abbrev pub expr_height : ExprTree → ℕ
expr_height = fold-ExprTree ℕ expr_height_step

abbrev pub exprs_height : List ExprTree → ℕ
exprs_height exprs = highest (map expr_height exprs)

-- a call adds no level to its statement
abbrev pub call_height : CallTree → ℕ
call_height call = exprs_height call.args

-- an absent expression has no height
abbrev pub optional_height : Option ExprTree → ℕ
optional_height None = 0
optional_height (Some e) = expr_height e

-- the height of the highest part, 0 where a statement has none
abbrev pub simple_kind_height : SimpleKind → ℕ
simple_kind_height (Assign place value) = max (expr_height place) (expr_height value)
simple_kind_height (AssignCall place call) = max (expr_height place) (call_height call)
simple_kind_height (Call call) = call_height call
simple_kind_height (Malloc place count of) = max (expr_height place) (optional_height count)
simple_kind_height (Free pointer) = expr_height pointer

abbrev pub simple_height : SimpleTree → ℕ
simple_height simple = simple_kind_height simple.kind + 1

abbrev pub option_height : Option SimpleTree → ℕ
option_height None = 0
option_height (Some simple) = simple_height simple

abbrev pub kind_height_step : StmtKind-F ℕ ℕ → ℕ
kind_height_step (layer.Assign place value) = max (expr_height place) (expr_height value)
kind_height_step (layer.AssignCall place call) = max (expr_height place) (call_height call)
kind_height_step (layer.Call call) = call_height call
kind_height_step (layer.Malloc place count of) = max (expr_height place) (optional_height count)
kind_height_step (layer.Free pointer) = expr_height pointer
kind_height_step (layer.If cond then_part else_part) =
    max (expr_height cond) (max (highest then_part) (highest else_part))
kind_height_step (layer.While cond body) = max (expr_height cond) (highest body)
kind_height_step (layer.For first cond next body) = max (max (option_height first) (option_height next))
    (max (expr_height cond) (highest body))
kind_height_step (layer.ReturnValue value) = expr_height value
kind_height_step (layer.ReturnCall call) = call_height call
kind_height_step _ = 0

abbrev pub stmt_height_step : StmtTree-F ℕ ℕ → ℕ
stmt_height_step stmt = stmt.kind + 1

abbrev pub stmt_height : StmtTree → ℕ
stmt_height = fold-StmtTree ℕ ℕ kind_height_step stmt_height_step

-- the height of the highest part of a statement of this kind
abbrev pub kind_height : StmtKind → ℕ
kind_height = fold-StmtKind ℕ ℕ kind_height_step stmt_height_step

abbrev pub stmts_height : List StmtTree → ℕ
stmts_height stmts = highest (map stmt_height stmts)

-- a local's initialiser is a tree of its own
abbrev pub local_height : LocalTree → ℕ
local_height local = optional_height local.init

abbrev pub locals_height : List LocalTree → ℕ
locals_height locals = highest (map local_height locals)

abbrev pub function_height : FunctionTree → ℕ
function_height function = max (locals_height function.locals) (stmts_height function.body)

abbrev pub decl_height : Decl → ℕ
decl_height (Function function) = function_height function
decl_height _ = 0

abbrev pub decls_height : List Decl → ℕ
decls_height decls = highest (map decl_height decls)

-- the greatest height of a tree of the section
abbrev pub section_height : SectionTree → ℕ
section_height section = decls_height section.decls

-- a height as a number of 32 bits, which stops at the last one
abbrev pub limited : ℕ → ℕ
limited height = min height 4294967295
