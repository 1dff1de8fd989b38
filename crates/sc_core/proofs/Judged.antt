-- What judging leaves as it is.
use Rattle.sc_core.proofs.Common.{Judged, Scope, Ty, TypedExpr, TypedKind-F, ap, judged, refl, term_judged, ◌∙◌, ◌≡◌}
use Rattle.sc_core.specs.declared.expr.TypedKind.TheOpen as term
use Rattle.sc_core.proofs.Induction.{expr_induction}
use Rattle.sc_core.proofs.Layers.{expr_at}

-- the type of a judged expression is its own
pub judged_ty : (scope : Scope) (e : TypedExpr) → (judged scope e).ty ≡ e.ty
judged_ty scope = expr_induction (λ e. (judged scope e).ty ≡ e.ty)
    (λ t k under. ap (λ j. j.ty) (expr_at _ _ (term_judged scope) (λ e. e.kind e.ty) t k) ∙ of_layer t _) where
      of_layer : (t : Ty) (k : TypedKind-F (Ty → Judged) Judged) → (term_judged scope k t).ty ≡ t
      of_layer t (term.Literal word) = refl
      of_layer t (term.Variable v) = refl
      of_layer t (term.Unary o a) = refl
      of_layer t (term.Binary o a b) = refl
      of_layer t (term.Index a b) = refl
      of_layer t (term.Member a offset) = refl
      of_layer t (term.Arrow a offset) = refl
      of_layer t (term.Deref a) = refl
      of_layer t (term.Address a) = refl
      of_layer t (term.SizeOf cells) = refl
