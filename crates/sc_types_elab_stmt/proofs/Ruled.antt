-- Arguments and parameters, one after another.
use Rattle.sc_types_elab_stmt.proofs.Common.{Bool, Err, ExprTree, IfOk, Judged, List, Ok, Option, Result, Scope}
use Rattle.sc_types_elab_stmt.proofs.Common.{Signature, Some, Ty, TypedExpr, Visible, [], add-one, all_go, all_go_into}
use Rattle.sc_types_elab_stmt.proofs.Common.{ap, args_fit, arith, assign_fits, drop, false, get_or, goes_in, goes_into}
use Rattle.sc_types_elab_stmt.proofs.Common.{going_to_all, is_target, judged, length, map, params_called, refl, suc}
use Rattle.sc_types_elab_stmt.proofs.Common.{sym}
use Rattle.sc_types_elab_stmt.proofs.Common.{true, typed, ℕ, ◌&&◌, ◌+◌, ◌<◌, ◌∙◌, ◌∷◌, ◌≡◌, ◌≢◌}
use Rattle.std.proofs.Math.Seq.{drop-cons}
use Rattle.sc_core.proofs.Judged.{judged_ty}

module _ (goes : Ty → ExprTree → Bool) where
  pub all_go-lengths : (types : List Ty) (args : List ExprTree) → length types ≢ length args →
      all_go goes types args ≡ false
  all_go-lengths [] [] other = absurd (other refl)
  all_go-lengths [] (x ∷ args) other = refl
  all_go-lengths (t ∷ types) [] other = refl
  all_go-lengths (t ∷ types) (x ∷ args) other = grind (arith, all_go-lengths types args (λ same. other (ap suc same)))

  module _ (types : List Ty) (args : List ExprTree) (i : ℕ) (t : Ty) (x : ExprTree) (within : i < length types)
      (with : i < length args) (is : x ≡ get_or args i x) where
    abbrev rest : Bool
    rest = all_go goes (drop (i + 1) types) (drop (i + 1) args)

    -- the arguments from a place on: the one there, and the rest
    all_go-at : all_go goes (drop i types) (drop i args) ≡ (goes (get_or types i t) x && rest)
    all_go-at =
        (λ j. all_go goes (drop-cons types i t within j) (drop-cons args i x with j)) ∙ (λ j. goes (get_or types i t)
        (sym is j) && all_go goes (drop (sym (add-one i) j) types) (drop (sym (add-one i) j) args))

    pub all_go-not : (whole holds : Bool) → holds ≡ goes (get_or types i t) x → holds ≡ false →
        all_go goes (drop i types) (drop i args) ≡ whole → false ≡ whole
    all_go-not whole holds reported fails so = cc all_go-at

    pub all_go-next : (whole holds : Bool) → holds ≡ goes (get_or types i t) x → holds ≡ true →
        all_go goes (drop i types) (drop i args) ≡ whole → rest ≡ whole
    all_go-next whole holds reported fits so = cc all_go-at

pub ruleset arguments = (all_go-lengths)

module _ (visible : Visible) (scope : Scope) where
  all_go-is : (types : List Ty) (args : List ExprTree) → all_go (goes_in visible scope) types args ≡ all_go_into types
      (map (judged scope) (going_to_all types (map (typed visible) args)))
  all_go-is [] [] = refl
  all_go-is [] (arg ∷ args) = refl
  all_go-is (t ∷ types) [] = refl
  all_go-is (t ∷ types) (arg ∷ args) = cc (all_go-is types args)

  pub args_go : (s : Option Signature) (types : List Ty) (args : List ExprTree) → (gone : Bool) →
      gone ≡ all_go (goes_in visible scope) types args → (signature : Signature) → s ≡ Some signature →
      types ≡ signature.params → gone ≡ args_fit s (map (judged scope)
      (going_to_all (params_called s) (map (typed visible) args)))
  args_go s types args gone is signature there same = cc (all_go-is types args)

  -- what a place takes
  pub takes_is : (p : TypedExpr) (j : Judged) (goes holds : Bool) (value : Judged) → j ≡ judged scope p →
      goes ≡ goes_into p.ty value → holds ≡ (is_target j && goes) → holds ≡ assign_fits (judged scope p) value
  takes_is p j goes holds value is reported so = cc (judged_ty scope p)

  pub takes_call_is : (p e : TypedExpr) (j : Judged) (gives holds : Bool) (fits : Bool) (result : Ty → Bool) →
      j ≡ judged scope p → p ≡ e → gives ≡ (fits && result p.ty) → holds ≡ (is_target j && gives) →
      holds ≡ (is_target (judged scope e) && (fits && result e.ty))
  takes_call_is p e j gives holds fits result is same reported so = cc

  -- what a place takes by its type
  pub takes_typed_is : (p e : TypedExpr) (j : Judged) (goes holds : Bool) (fits : Ty → Bool) → j ≡ judged scope p →
      p ≡ e → goes ≡ fits p.ty → holds ≡ (is_target j && goes) → holds ≡ (is_target (judged scope e) && fits e.ty)
  takes_typed_is p e j goes holds fits is same reported so = cc

pub ok_map : {A E : Type 0} (P Q : A → Type 0) (r : Result A E) → ((x : A) → P x → Q x) → IfOk r P → IfOk r Q
ok_map P Q (Ok x) f p = f x p
ok_map P Q (Err e) f p = tt
