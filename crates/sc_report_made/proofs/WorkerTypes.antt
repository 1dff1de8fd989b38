-- A worker breaks no rule of types.
use Rattle.sc_report_made.proofs.Common.{Add, Assign, Binary, BitAnd, Callees, ExprTree, For, FunctionLines, Global}
use Rattle.sc_report_made.proofs.Common.{Less, List, Local, Option, Param, ReturnValue, Scope, SimpleTree, Some}
use Rattle.sc_report_made.proofs.Common.{StmtTree, TypedExpr, Variable, Visible, [], add_kind, addend, ap, ap₂}
use Rattle.sc_report_made.proofs.Common.{assign_fits, assign_holds, below, codes, concat, cond_holds, element}
use Rattle.sc_report_made.proofs.Common.{goes_into, going_to, is_scalar, judged, literal, loop_kind, map, next_at}
use Rattle.sc_report_made.proofs.Common.{part_type_lines, place_judged, refl, return_kind, return_value_holds, rules}
use Rattle.sc_report_made.proofs.Common.{set_kind, start_at, stmt_at, stmt_type_lines, store_kind, true, typed, unless}
use Rattle.sc_report_made.proofs.Common.{value_judged, ℕ, ◌++◌, ◌∙◌, ◌∷◌, ◌≡◌}
use Rattle.sc_base.specs.declared.op.BinaryOp.{BinaryOp}
use Rattle.sc_ast.specs.declared.expr.ExprTree as exprs
use Rattle.sc_ast.specs.declared.stmt.StmtKind as kinds
use Rattle.sc_ast.specs.declared.stmt.StmtTree as stmts
use Rattle.sc_core.specs.declared.expr.TypedExpr as typed_exprs
use Rattle.sc_core.specs.declared.expr.TypedKind as typed_kinds
use Rattle.sc_core.specs.declared.expr.VarRef.{VarRef}
use Rattle.sc_core.specs.declared.ty.BaseTy.TheVariants as base
use Rattle.sc_core.specs.declared.ty.Ty.{Ty}
use Rattle.sc_core.specs.declared.ty.Ty.TheVariants as ty
use Rattle.sc_report_made.proofs.Literals.{addend_small, literal_goes}

-- what is visible in a function: the table, the parameter and both locals
abbrev pub worker_visible : Visible
worker_visible = record {
  tags = [];
  structs = [];
  globals = record { name = codes "t"; ty = ty.Array 0 base.Int 16 } ∷ [];
  params = record { name = codes "x"; ty = ty.Int } ∷ [];
  locals = record { name = codes "i"; ty = ty.Int } ∷ record { name = codes "s"; ty = ty.Int } ∷ [];
}

abbrev pub worker_scope : Scope
worker_scope = record {
  structs = [];
  globals = ty.Array 0 base.Int 16 ∷ [];
  params = ty.Int ∷ [];
  locals = ty.Int ∷ ty.Int ∷ [];
}

-- Expressions with their types.

abbrev variable : Ty → VarRef → TypedExpr
variable t v = record { ty = t; kind = typed_kinds.Variable v }

abbrev int : ℕ → TypedExpr
int word = record { ty = ty.Int; kind = typed_kinds.Literal word }

abbrev both : BinaryOp → TypedExpr → TypedExpr → TypedExpr
both o a b = record { ty = ty.Int; kind = typed_kinds.Binary o a b }

abbrev typed_element : TypedExpr
typed_element = record {
  ty = ty.Int;
  kind = typed_kinds.Index (variable (ty.Array 0 base.Int 16) (Global 0))
      (both BitAnd (variable ty.Int (Local 0)) (int 15));
}

counter_typed : typed worker_visible (Variable (codes "i")) ≡ variable ty.Int (Local 0)
counter_typed = search (rules, exprs.the_lemmas)

sum_typed : typed worker_visible (Variable (codes "s")) ≡ variable ty.Int (Local 1)
sum_typed = search (rules, exprs.the_lemmas)

element_typed : typed worker_visible element ≡ typed_element
element_typed = search (rules, exprs.the_lemmas)

next_typed : typed worker_visible (Binary Add (Variable (codes "i")) (literal 1)) ≡
    both Add (variable ty.Int (Local 0)) (int 1)
next_typed = search (rules, exprs.the_lemmas)

stored_typed : typed worker_visible (Binary Add (Variable (codes "x")) (Variable (codes "i"))) ≡
    both Add (variable ty.Int (Param 0)) (variable ty.Int (Local 0))
stored_typed = search (rules, exprs.the_lemmas)

added_typed : typed worker_visible (Binary Add (Variable (codes "s")) element) ≡
    both Add (variable ty.Int (Local 1)) typed_element
added_typed = search (rules, exprs.the_lemmas)

below_typed : typed worker_visible below ≡ both Less (variable ty.Int (Local 0)) (int 64)
below_typed = search (rules, exprs.the_lemmas)

-- How they are judged.

counter_judged : judged worker_scope (variable ty.Int (Local 0)) ≡ place_judged ty.Int true
counter_judged = search (rules, typed_exprs.the_lemmas, typed_kinds.the_lemmas)

sum_judged : judged worker_scope (variable ty.Int (Local 1)) ≡ place_judged ty.Int true
sum_judged = search (rules, typed_exprs.the_lemmas, typed_kinds.the_lemmas)

element_judged : judged worker_scope typed_element ≡ place_judged ty.Int true
element_judged = search (rules, typed_exprs.the_lemmas, typed_kinds.the_lemmas)

next_judged : judged worker_scope (both Add (variable ty.Int (Local 0)) (int 1)) ≡ value_judged ty.Int true
next_judged = search (rules, typed_exprs.the_lemmas, typed_kinds.the_lemmas)

stored_judged : judged worker_scope (both Add (variable ty.Int (Param 0)) (variable ty.Int (Local 0))) ≡
    value_judged ty.Int true
stored_judged = search (rules, typed_exprs.the_lemmas, typed_kinds.the_lemmas)

added_judged : judged worker_scope (both Add (variable ty.Int (Local 1)) typed_element) ≡ value_judged ty.Int true
added_judged = search (rules, typed_exprs.the_lemmas, typed_kinds.the_lemmas)

below_judged : judged worker_scope (both Less (variable ty.Int (Local 0)) (int 64)) ≡ value_judged ty.Int true
below_judged = search (rules, typed_exprs.the_lemmas, typed_kinds.the_lemmas)

module _ (callees : Callees) where
  -- the lines of a statement that break a rule
  abbrev pub lines : StmtTree → List ℕ
  lines = stmt_type_lines worker_visible callees worker_scope (Some ty.Int)

  assign_at : (line : ℕ) (place value : ExprTree) → lines (stmt_at line (Assign place value)) ≡
      unless (assign_holds worker_visible callees worker_scope (Some ty.Int) place value) line
  assign_at line place value = search (rules, exprs.the_lemmas, kinds.the_lemmas, stmts.the_lemmas)

  for_at : (line : ℕ) (first : Option SimpleTree) (cond : ExprTree) (next : Option SimpleTree)
      (a b : StmtTree) → lines (stmt_at line (For first cond next (a ∷ b ∷ []))) ≡
      part_type_lines worker_visible callees worker_scope (Some ty.Int) first ++
      (unless (cond_holds worker_visible callees worker_scope (Some ty.Int) cond) line ++
      (part_type_lines worker_visible callees worker_scope (Some ty.Int) next ++ (lines a ++ (lines b ++ []))))
  for_at line first cond next a b = search (rules, exprs.the_lemmas, kinds.the_lemmas, stmts.the_lemmas)

  return_at : (line : ℕ) (value : ExprTree) → lines (stmt_at line (ReturnValue value)) ≡
      unless (return_value_holds worker_visible callees worker_scope (Some ty.Int) value) line
  return_at line value = search (rules, exprs.the_lemmas, kinds.the_lemmas, stmts.the_lemmas)

  -- a value that is typed and judged as an `int`, into such a place
  assign_fits_at : (place value : ExprTree) (p : TypedExpr) → typed worker_visible place ≡ p →
      judged worker_scope p ≡ place_judged ty.Int true → p.ty ≡ ty.Int →
      goes_into ty.Int (judged worker_scope (typed worker_visible value)) ≡ true →
      assign_holds worker_visible callees worker_scope (Some ty.Int) place value ≡ true
  assign_fits_at place value p is fits of_int goes =
      (λ i. assign_fits (judged worker_scope (is i)) (judged worker_scope (going_to (is i).ty
      (typed worker_visible value)))) ∙
      ap₂ (λ e t. assign_fits e (judged worker_scope (going_to t (typed worker_visible value)))) fits of_int ∙ goes

  into_sum : (line : ℕ) (value : ExprTree) →
      goes_into ty.Int (judged worker_scope (typed worker_visible value)) ≡ true →
      lines (stmt_at line (Assign (Variable (codes "s")) value)) ≡ []
  into_sum line value goes =
      assign_at line (Variable (codes "s")) value ∙
      ap (λ b. unless b line)
      (assign_fits_at (Variable (codes "s")) value (variable ty.Int (Local 1)) sum_typed sum_judged refl goes)

  goes_as : (value : ExprTree) (v : TypedExpr) → typed worker_visible value ≡ v →
      judged worker_scope v ≡ value_judged ty.Int true →
      goes_into ty.Int (judged worker_scope (typed worker_visible value)) ≡ true
  goes_as value v is fits =
      ap (λ e. goes_into ty.Int (judged worker_scope e)) is ∙ ap (goes_into ty.Int) fits

  set_none : (seed j line : ℕ) → lines (stmt_at line (set_kind seed j)) ≡ []
  set_none seed j line =
      into_sum line (literal (addend seed j))
      (literal_goes worker_visible worker_scope (addend seed j) (addend_small seed j))

  add_none : (line : ℕ) → lines (stmt_at line add_kind) ≡ []
  add_none line =
      into_sum line (Binary Add (Variable (codes "s")) element) (goes_as _ _ added_typed added_judged)

  store_none : (line : ℕ) → lines (stmt_at line store_kind) ≡ []
  store_none line =
      assign_at line element (Binary Add (Variable (codes "x")) (Variable (codes "i"))) ∙
      ap (λ b. unless b line) (assign_fits_at element _ typed_element element_typed element_judged refl
      (goes_as _ _ stored_typed stored_judged))

  counter_none : (line : ℕ) (value : ExprTree) →
      goes_into ty.Int (judged worker_scope (typed worker_visible value)) ≡ true →
      unless (assign_holds worker_visible callees worker_scope (Some ty.Int) (Variable (codes "i")) value) line ≡ []
  counter_none line value goes =
      ap (λ b. unless b line) (assign_fits_at (Variable (codes "i")) value (variable ty.Int (Local 0))
      counter_typed counter_judged refl goes)

  below_holds : cond_holds worker_visible callees worker_scope (Some ty.Int) below ≡ true
  below_holds = ap (λ e. is_scalar (judged worker_scope e)) below_typed ∙ ap is_scalar below_judged

  loop_none : (at : FunctionLines) → lines (stmt_at at.loop (loop_kind at)) ≡ []
  loop_none at =
      for_at at.loop (Some (start_at at.start)) below (Some (next_at at.next)) (stmt_at at.store store_kind)
      (stmt_at at.add add_kind) ∙
      (λ i. counter_none at.start (literal 0) (literal_goes worker_visible worker_scope 0 refl) i ++
      (unless (below_holds i) at.loop ++
      (counter_none at.next _ (goes_as _ _ next_typed next_judged) i ++
      (store_none at.store i ++ (add_none at.add i ++ [])))))

  return_none : (line : ℕ) → lines (stmt_at line (return_kind (Variable (codes "s")))) ≡ []
  return_none line =
      return_at line (Variable (codes "s")) ∙
      ap (λ b. unless b line) (ap (λ e. goes_into ty.Int (judged worker_scope e)) sum_typed ∙
      ap (goes_into ty.Int) sum_judged)

  -- the statements of a function break no rule
  pub body_none : (seed j : ℕ) (at : FunctionLines) →
      concat (map lines (stmt_at at.set (set_kind seed j) ∷ stmt_at at.loop (loop_kind at) ∷
      stmt_at at.result (return_kind (Variable (codes "s"))) ∷ [])) ≡ []
  body_none seed j at = λ i. set_none seed j at.set i ++ (loop_none at i ++ (return_none at.result i ++ []))
