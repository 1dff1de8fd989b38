-- What the building of expressions and calls keeps.
use Rattle.sc_types_elab_stmt.proofs.Common.{ExprTree, FunctionScope, IsTrue, List, Option, SectionScope, Ty, TypedExpr}
use Rattle.sc_types_elab_stmt.proofs.Common.{Visible, [], ap, args_in, drop, drop-step, expr_in, first_of, get_or}
use Rattle.sc_types_elab_stmt.proofs.Common.{going_to_some, length, refl, rest_of, rules, subst, sym, typed, visible, ℕ}
use Rattle.sc_types_elab_stmt.proofs.Common.{◌+◌, ◌<◌, ◌∙◌, ◌∷◌, ◌≡◌}
use Rattle.sc_ast.specs.declared.expr.ExprTree.{ExprTree-F, out-ExprTree, roll-ExprTree, roll-out-ExprTree, the_lemmas}
use Rattle.sc_ast.specs.Places as tree_place
use Rattle.sc_core.specs.declared.expr.TypedExpr as exprs
use Rattle.sc_core.specs.declared.expr.TypedKind as kinds
use Rattle.sc_ast.specs.declared.expr.ExprTree.TheOpen as tree
use Rattle.sc_core.specs.Places as place

module _ (section : SectionScope) (function : FunctionScope) where
  pub args_nil : (types : List Ty) → args_in section function types [] ≡ []
  unfolding args_in
  args_nil [] = refl
  args_nil (t ∷ types) = refl

  pub args_cons : (types : List Ty) (e : ExprTree) (es : List ExprTree) →
      args_in section function types (e ∷ es) ≡ going_to_some (first_of types) (expr_in section function e) ∷
      args_in section function (rest_of types) es
  unfolding args_in expr_in
  args_cons [] e [] = refl
  args_cons [] e (f ∷ es) = refl
  args_cons (t ∷ types) e es = refl

  -- the argument at a place, which goes to the first of the parameters
  pub args_next : (types : List Ty) (args : List ExprTree) (i : ℕ) (arg : ExprTree) (built : TypedExpr)
      (param : Option Ty) (going : TypedExpr) (rest : List Ty) → i < length args → arg ≡ get_or args i arg →
      built ≡ expr_in section function arg → param ≡ first_of types → going ≡ going_to_some param built →
      rest ≡ rest_of types → args_in section function types (drop i args) ≡ going ∷
      args_in section function rest (drop (i + 1) args)
  args_next types args i arg built param going rest h at e f g r = ap (args_in section function types)
      (drop-step args i arg h at) ∙ args_cons types arg (drop (i + 1) args) ∙ ap (λ x. x ∷ args_in section function
      (rest_of types) (drop (i + 1) args)) (sym (g ∙ ap (λ p. going_to_some p built) f ∙
      ap (going_to_some (first_of types)) e)) ∙ ap (λ l. going ∷ args_in section function l (drop (i + 1) args)) (sym r)

module _ (visible : Visible) where
  by_layer : (t : ExprTree-F ExprTree) → tree_place.is_place (roll-ExprTree t) ≡
      place.is_place (typed visible (roll-ExprTree t))
  by_layer (tree.Literal number) = search (rules, the_lemmas, exprs.the_lemmas, kinds.the_lemmas)
  by_layer _ = search (rules, the_lemmas, exprs.the_lemmas, kinds.the_lemmas)

  same_place : (e : ExprTree) → tree_place.is_place e ≡ place.is_place (typed visible e)
  same_place e = subst (λ e. tree_place.is_place e ≡ place.is_place (typed visible e)) (roll-out-ExprTree e)
      (by_layer (out-ExprTree e))

module _ (section : SectionScope) (function : FunctionScope) where
  pub place_kept : (e : ExprTree) → IsTrue (tree_place.is_place e) →
      IsTrue (place.is_place (expr_in section function e))
  unfolding expr_in
  place_kept e h = subst IsTrue (same_place (visible section function) e) h
