-- Worked statements that allocate and free, and what they become.
use Rattle.sc_lower.proofs.Common.{Const, List, Local, None, ObjectPlace, Shape, Some, TacStmt, TypedStmt}
use Rattle.sc_lower.proofs.Common.{TypedStmtKind, TypedStmtKind-F, Var, [], allocate_at, ap, count_code, expr, expr_at}
use Rattle.sc_lower.proofs.Common.{forms, free_value, int_pointer, kind_step, lit, lowered_step, on_line, stmt_at}
use Rattle.sc_lower.proofs.Common.{stmt_code, term_step, true, typed, ◌∙◌, ◌∷◌, ◌≡◌}
use Rattle.sc_core.specs.declared.expr.TypedKind.TheOpen as term
use Rattle.sc_core.specs.declared.stmt.TypedStmtKind.TheOpen as layer
use Rattle.sc_core.specs.declared.ty.Ty.TheVariants as ty
use Rattle.sc_core.specs.declared.value.Want.TheVariants as want
use Rattle.sc_tac.specs.declared.stmt.Constant.TheVariants as constant
use Rattle.sc_tac.specs.declared.stmt.TacStmt.TheVariants.{Alloc, Free, Load, Store}
use Rattle.sc_lower.proofs.Shapes.{form_is}

abbrev p : Shape
p = Var int_pointer (Local 0)

-- the code of one statement in `void f(void) { int *p; .. }`
abbrev code_of : TypedStmtKind-F TypedStmtKind TypedStmt → List TacStmt
code_of kind = (stmt_code [] 0 (on_line 1 kind) 0).code

-- `p = malloc(sizeof(int));`
one_element : code_of (layer.Malloc (expr p) None 1)
    ≡ Const 0 (constant.Word 1) ∷ Alloc 0 0 1 ∷ ObjectPlace 1 0 ∷ Store 1 0 ∷ []
one_element =
    ap (λ code. (code 0).code) (stmt_at _ _ (kind_step [] 0) (λ s. s.kind) 1 (layer.Malloc (expr p) None 1))
    ∙ ap (λ place. (allocate_at place (count_code [] 0 None) 1 0).code) (form_is [] 0 p)

-- `p = malloc(3 * sizeof(struct pair));` where `struct pair` has two cells
three_pairs : code_of (layer.Malloc (expr p) (Some (expr (lit 3))) 2)
    ≡ Const 0 (constant.Word 3) ∷ Alloc 0 0 2 ∷ ObjectPlace 1 0 ∷ Store 1 0 ∷ []
three_pairs =
    ap (λ code. (code 0).code) (stmt_at _ _ (kind_step [] 0) (λ s. s.kind) 1
    (layer.Malloc (expr p) (Some (expr (lit 3))) 2))
    ∙ (λ i. (allocate_at (form_is [] 0 p i) (form_is [] 0 (lit 3) i want.Value) 2 0).code)

-- `free(p);`
freed_pointer : code_of (layer.Free (expr p)) ≡ ObjectPlace 0 0 ∷ Load 0 0 true ∷ Free 0 ∷ []
freed_pointer =
    ap (λ code. (code 0).code) (stmt_at _ _ (kind_step [] 0) (λ s. s.kind) 1 (layer.Free (expr p)))
    ∙ ap (λ pointer. (free_value pointer 0).code) (form_is [] 0 p)

-- `sizeof(struct pair)`
size_of_pair : (forms [] 0 (typed ty.Unsigned (term.SizeOf 2)) want.Value 0).code ≡ Const 0 (constant.Word 8) ∷ []
size_of_pair =
    ap (λ e. (e.form want.Value 0).code) (expr_at _ _ (term_step [] 0) lowered_step ty.Unsigned (term.SizeOf 2))
