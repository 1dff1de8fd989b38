-- Different elements that all stand in a list are no more than it has: so a section has no more exports than functions.
use Rattle.sc_compile.proofs.Common.{Interface, Interfaces, List, Named, Some, TypedFunction, TypedSection, [], ap}
use Rattle.sc_compile.proofs.Common.{arith, distinct_at, export_named, found_passes, interface_fits, length, length-map}
use Rattle.sc_compile.proofs.Common.{map, name_of, names_apart, refl, slice_get, slice_get-map, suc, true, zero, ℕ, ◌<◌}
use Rattle.sc_compile.proofs.Common.{◌∙◌, ◌∷◌, ◌≡◌, ◌≢◌, ◌≤◌}
use Rattle.std.proofs.Common.{option_map}
use Rattle.sc_base.proofs.Texts.{same_text}
use Rattle.sc_compile.proofs.Lists.{mapped}

module _ {A : Type 0} where
  -- the list without the element at a place
  abbrev without : List A → ℕ → List A
  without [] k = []
  without (x ∷ xs) zero = xs
  without (x ∷ xs) (suc k) = x ∷ without xs k

  one_less : (xs : List A) (k : ℕ) (x : A) → slice_get xs k ≡ Some x → suc (length (without xs k)) ≡ length xs
  one_less [] k x is = absurd (cc)
  one_less (y ∷ xs) zero x is = refl
  one_less (y ∷ xs) (suc k) x is = ap suc (one_less xs k x is)

  -- another element is still there
  still : (xs : List A) (k j : ℕ) (x y : A) → slice_get xs k ≡ Some x → slice_get xs j ≡ Some y → x ≢ y →
      (m : ℕ) × (slice_get (without xs k) m ≡ Some y)
  still [] k j x y is at other = absurd (cc)
  still (z ∷ xs) zero zero x y is at other = let same : x ≡ y = cc in absurd (other same)
  still (z ∷ xs) zero (suc j) x y is at other = (j, at)
  still (z ∷ xs) (suc k) zero x y is at other = (0, at)
  still (z ∷ xs) (suc k) (suc j) x y is at other =
      let rest = still xs k j x y is at other in (suc rest.0, rest.1)

  pub no_more : (xs ys : List A) →
      ((i j : ℕ) (a b : A) → i < j → slice_get xs i ≡ Some a → slice_get xs j ≡ Some b → a ≢ b) →
      ((i : ℕ) (a : A) → slice_get xs i ≡ Some a → (k : ℕ) × (slice_get ys k ≡ Some a)) → length xs ≤ length ys
  no_more [] ys apart each = omega arith
  no_more (x ∷ xs) ys apart each =
      let here = each 0 x refl in
      let rest : length xs ≤ length (without ys here.0) =
      no_more xs (without ys here.0)
      (λ i j a b before is at. apart (suc i) (suc j) a b (omega (arith, before)) is at)
      (λ i a is. let there = each (suc i) a is in
      still ys here.0 there.0 x a here.1 there.1 (apart 0 (suc i) x a (omega arith) refl is)) in
      omega (arith, rest, one_less ys here.0 x here.1)

module _ (interfaces : Interfaces) (c : ℕ) (interface : Interface) (section : TypedSection)
    (interface_fitting : interface_fits interfaces c interface section ≡ true)
  where
    abbrev called : TypedFunction → List ℕ
    called f = f.name

    defined : (i : ℕ) (name : List ℕ) → slice_get (map name_of interface.exports) i ≡ Some name →
        (k : ℕ) × (slice_get (map called section.functions) k ≡ Some name)
    defined i name is =
        let export = mapped name_of interface.exports i name is in
        let named : Named section (name_of export.0) =
        export_named interfaces c interface section interface_fitting i export.0 export.1.0 in
        let found = found_passes _ section.functions named.number named.found in
        let same : found.item.name ≡ export.0.name = same_text found.item.name export.0.name found.passes in (
          named.number,
          slice_get-map called section.functions named.number ∙ ap (option_map called) found.is
              ∙ ap Some (same ∙ export.1.1),
        )

    -- each export is of a function of its own
    pub exports_few : length interface.exports ≤ length section.functions
    exports_few =
        omega (
          arith,
          no_more (map name_of interface.exports) (map called section.functions)
              (distinct_at (map name_of interface.exports)
              (names_apart interfaces c interface section interface_fitting)) defined,
          length-map interface.exports name_of,
          length-map section.functions called,
        )
