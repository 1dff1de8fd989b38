-- What is allocated for a pointer has the cells of what it points to.
use Rattle.sc_types.proofs.Common.{BaseTy, Bool, List, Option, Ty, and_first, and_rest, ap, arith, cells_of, count_fits}
use Rattle.sc_types.proofs.Common.{eq-eqb, eqb-true, is_some, is_target, is_type, malloc_fits, min, most_cells, nat_le}
use Rattle.sc_types.proofs.Common.{nat_tests, pointer_to, refl, same_base, same_ty, starred, starred_cells, subst, suc}
use Rattle.sc_types.proofs.Common.{sym, target, target_cells, true, zero, ℕ, ◌&&◌, ◌-◌, ◌==◌, ◌∙◌, ◌≡◌}
use Rattle.sc_core.specs.Prelude.{Judged}
use Rattle.sc_core.specs.declared.section.TypedStruct.{TypedStruct}
use Rattle.sc_core.specs.declared.ty.Ty.TheVariants as ty
use Rattle.sc_core.specs.declared.ty.BaseTy.TheVariants as base

same_base_is : (a b : BaseTy) → same_base a b ≡ true → a ≡ b
same_base_is base.Int base.Int h = refl
same_base_is base.Unsigned base.Unsigned h = refl
same_base_is (base.Struct m) (base.Struct n) h = ap base.Struct (eqb-true m n h)
same_base_is _ _ h = cc

same_pointer : (stars : ℕ) (b : BaseTy) (p : Ty) → same_ty (ty.Pointer stars b) p ≡ true → ty.Pointer stars b ≡ p
same_pointer stars b (ty.Pointer n c) h = λ i.
    ty.Pointer (eqb-true stars n (and_first _ _ h) i) (same_base_is b c (and_rest (stars == n) _ h) i)
same_pointer stars b _ h = cc

small_min : (n : ℕ) → nat_le n most_cells ≡ true → min n most_cells ≡ n
small_min n h = grind (arith, nat_tests)

min_small : (n : ℕ) → nat_le (min n most_cells) most_cells ≡ true
min_small n = grind (arith, nat_tests)

three : (a b c : Bool) → (a && (b && c)) ≡ true → (a ≡ true) × (b ≡ true) × (c ≡ true)
three a b c h = grind arith

five : (a b c d e : Bool) → a ≡ true → b ≡ true → c ≡ true → d ≡ true → e ≡ true →
    (a && (b && (c && (d && e)))) ≡ true
five a b c d e p q r s t = grind arith

module _ (structs : List TypedStruct) where
  abbrev PointsTo : Ty → Ty → Type 0
  PointsTo t p = (is_some (target p) ≡ true) × (target_cells structs p ≡ cells_of structs t)

  points_to : (stars : ℕ) (b : BaseTy) (p : Ty) → is_type (pointer_to (starred stars b)) p ≡ true →
      PointsTo (starred stars b) p
  points_to zero base.Int p h = subst (PointsTo ty.Int) (same_pointer 1 base.Int p h) (refl, refl)
  points_to zero base.Unsigned p h = subst (PointsTo ty.Unsigned) (same_pointer 1 base.Unsigned p h) (refl, refl)
  points_to zero (base.Struct n) p h =
      subst (PointsTo (ty.Struct n)) (same_pointer 1 (base.Struct n) p h) (refl, refl)
  points_to (suc stars) b p h =
      let one_less : suc (suc stars) - 1 ≡ suc stars = omega arith in
      subst (PointsTo (ty.Pointer (suc stars) b)) (same_pointer (suc (suc stars)) b p h)
      (refl, ap (λ n. starred_cells structs n b) one_less)

  -- an allocation that holds fits
  pub malloc_is_fit : (place : Judged) (count : Option Judged) (stars : ℕ) (b : BaseTy) →
      nat_le (cells_of structs (starred stars b)) most_cells ≡ true →
      (is_target place && (is_type (pointer_to (starred stars b)) place.ty && count_fits count)) ≡ true →
      malloc_fits structs place count (min (cells_of structs (starred stars b)) most_cells) ≡ true
  malloc_is_fit place count stars b small holds =
      let parts = three _ _ _ holds in
      let points = points_to stars b place.ty parts.1 in
      five _ _ _ _ _ parts.0 points.0 (eq-eqb _ _ (points.1 ∙ sym (small_min _ small))) (min_small _) parts.2
