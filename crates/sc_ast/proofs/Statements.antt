-- The height of each kind of statement, and a statement without its lines.
use Rattle.sc_ast.proofs.Common.{ExprTree, List, Option, StmtKind, StmtTree, call_height, expr_height, kind_height}
use Rattle.sc_ast.proofs.Common.{stmt_kind_of, lineless_kind, lineless_stmt, max, option_height, rules}
use Rattle.sc_ast.proofs.Common.{simple_kind_height}
use Rattle.sc_ast.proofs.Common.{stmt_height, stmts_height, the_lemmas, ℕ, ◌+◌, ◌≡◌}
use Rattle.sc_ast.specs.declared.expr.CallTree.{CallTree}
use Rattle.sc_ast.specs.declared.stmt.SimpleTree.{SimpleTree}
use Rattle.sc_ast.specs.declared.stmt.SimpleKind.{SimpleKind}
use Rattle.sc_ast.specs.declared.stmt.SimpleKind.TheVariants as simple
use Rattle.sc_ast.specs.declared.stmt.StmtKind.TheVariants as stmt
use Rattle.sc_ast.specs.declared.stmt.StmtTree as trees

pub tree_height : (line : ℕ) (kind : StmtKind) → stmt_height (record { line = line; kind = kind }) ≡
    kind_height kind + 1
tree_height line kind = search (rules, the_lemmas)

pub if_height : (cond : ExprTree) (then_part else_part : List StmtTree) → kind_height
    (stmt.If cond then_part else_part) ≡ max (expr_height cond) (max (stmts_height then_part) (stmts_height else_part))
if_height cond then_part else_part = search (rules, the_lemmas)

pub while_height : (cond : ExprTree) (body : List StmtTree) →
    kind_height (stmt.While cond body) ≡ max (expr_height cond) (stmts_height body)
while_height cond body = search (rules, the_lemmas)

pub for_height : (first : Option SimpleTree) (cond : ExprTree) (next : Option SimpleTree) (body : List StmtTree) →
    kind_height (stmt.For first cond next body) ≡ max (max (option_height first) (option_height next))
    (max (expr_height cond) (stmts_height body))
for_height first cond next body = search (rules, the_lemmas)

pub empty_height : kind_height stmt.Empty ≡ 0
empty_height = search (rules, the_lemmas)

pub break_height : kind_height stmt.Break ≡ 0
break_height = search (rules, the_lemmas)

pub continue_height : kind_height stmt.Continue ≡ 0
continue_height = search (rules, the_lemmas)

pub return_height : kind_height stmt.Return ≡ 0
return_height = search (rules, the_lemmas)

pub value_height : (value : ExprTree) → kind_height (stmt.ReturnValue value) ≡ expr_height value
value_height value = search (rules, the_lemmas)

pub return_call_height : (call : CallTree) → kind_height (stmt.ReturnCall call) ≡ call_height call
return_call_height call = search (rules, the_lemmas)

pub plain_height : (kind : SimpleKind) → kind_height (stmt_kind_of kind) ≡ simple_kind_height kind
plain_height (simple.Assign place value) = search (rules, the_lemmas)
plain_height _ = search (rules, the_lemmas)

pub bare_stmt : (line : ℕ) (kind : StmtKind) → lineless_stmt (record { line = line; kind = kind }) ≡
    record { line = 0; kind = lineless_kind kind }
bare_stmt line kind = search (rules, the_lemmas, trees.the_lemmas)
