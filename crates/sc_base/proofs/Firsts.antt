-- A name that has no value comes last.
use Rattle.sc_base.proofs.Common.{Bool, List, None, Some, [], ap, cond, false, first_by_name, if◌then◌else◌}
use Rattle.sc_base.proofs.Common.{insert_entry, pointwise, refl, true, ℕ, ◌++◌, ◌==◌, ◌∷◌, ◌≡◌}

module _ {V : Type 0} (name : List ℕ) (value : V) where
  absent_at : (b : Bool) (e : List ℕ × V) (es : List (List ℕ × V)) → cond b (Some e.1) (first_by_name es name) ≡ None →
      (first_by_name es name ≡ None → insert_entry (pointwise ◌==◌) es name value ≡ es ++ (name, value) ∷ []) →
      (if b then (e.0, value) ∷ es else e ∷ insert_entry (pointwise ◌==◌) es name value) ≡ e ∷
      (es ++ (name, value) ∷ [])
  absent_at true e es absent rest = cc
  absent_at false e es absent rest = ap (λ more. e ∷ more) (rest absent)

  pub insert_first_last : (es : List (List ℕ × V)) → first_by_name es name ≡ None →
      insert_entry (pointwise ◌==◌) es name value ≡ es ++ (name, value) ∷ []
  insert_first_last [] absent = refl
  insert_first_last (e ∷ es) absent = absent_at (pointwise ◌==◌ name e.0) e es absent (insert_first_last es)

pub ruleset firsts = insert_first_last
