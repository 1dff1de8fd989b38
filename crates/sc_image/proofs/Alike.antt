-- Whether two parts of images are the same, as it is found out place by place, and what it says.
use Rattle.sc_image.proofs.Common.{Bool, CompPart, ExportPart, ImportPart, List, [], and_from, and_parts, ap, ap₂}
use Rattle.sc_image.proofs.Common.{bytes_decides, eq-eqb, eqb-true, false, is_same_export, is_same_flag}
use Rattle.sc_image.proofs.Common.{is_same_import, is_same_inside, is_same_name, is_same_outside, length, map}
use Rattle.sc_image.proofs.Common.{pointwise, refl, seen_of, subst, suc, true, ℕ, ◌&&◌, ◌==◌, ◌∷◌, ◌≡◌}

module _ {A : Type 0} (same : A → A → Bool) where
  -- lists of other lengths are not the same
  pub lengths_differ : (xs ys : List A) → (length xs ≡ length ys → ⊥) → pointwise same xs ys ≡ false
  lengths_differ [] [] differ = absurd (differ refl)
  lengths_differ [] (y ∷ ys) differ = refl
  lengths_differ (x ∷ xs) [] differ = refl
  lengths_differ (x ∷ xs) (y ∷ ys) differ = by (same x y) (lengths_differ xs ys (λ is. differ (ap suc is)))
    where
      by : (here : Bool) → pointwise same xs ys ≡ false → (here && pointwise same xs ys) ≡ false
      by true later = later
      by false later = refl

  pub all_same : ((x : A) → same x x ≡ true) → (xs : List A) → pointwise same xs xs ≡ true
  all_same each [] = refl
  all_same each (x ∷ xs) = and_from (same x x) _ (each x) (all_same each xs)

  pub same_lists : ((x y : A) → same x y ≡ true → x ≡ y) → (xs ys : List A) → pointwise same xs ys ≡ true → xs ≡ ys
  same_lists each [] [] is = refl
  same_lists each [] (y ∷ ys) is = absurd cc
  same_lists each (x ∷ xs) [] is = absurd cc
  same_lists each (x ∷ xs) (y ∷ ys) is =
      let both = and_parts (same x y) (pointwise same xs ys) is in
      ap₂ (λ z zs. z ∷ zs) (each x y both.0) (same_lists each xs ys both.1)

  -- the same of what is seen of the elements
  pub seen_lists : (see : A → A) → ((x y : A) → same x y ≡ true → see x ≡ see y) → (xs ys : List A) →
      pointwise same xs ys ≡ true → map see xs ≡ map see ys
  seen_lists see each [] [] is = refl
  seen_lists see each [] (y ∷ ys) is = absurd cc
  seen_lists see each (x ∷ xs) [] is = absurd cc
  seen_lists see each (x ∷ xs) (y ∷ ys) is =
      let both = and_parts (same x y) (pointwise same xs ys) is in
      ap₂ (λ z zs. z ∷ zs) (each x y both.0) (seen_lists see each xs ys both.1)

  pub lists_seen : (see : A → A) → ((x y : A) → see x ≡ see y → same x y ≡ true) → (xs ys : List A) →
      map see xs ≡ map see ys → pointwise same xs ys ≡ true
  lists_seen see each [] [] is = refl
  lists_seen see each [] (y ∷ ys) is = absurd cc
  lists_seen see each (x ∷ xs) [] is = absurd cc
  lists_seen see each (x ∷ xs) (y ∷ ys) is =
      let whole : see x ∷ map see xs ≡ see y ∷ map see ys = is in
      let first : see x ≡ see y = cc in
      let others : map see xs ≡ map see ys = cc in
      and_from (same x y) _ (each x y first) (lists_seen see each xs ys others)

pub ruleset places = lengths_differ

pub same_name : (name : List ℕ) → is_same_name name name ≡ true
same_name name = (bytes_decides name name).1 refl

pub name_is : (a b : List ℕ) → is_same_name a b ≡ true → a ≡ b
name_is a b is = (bytes_decides a b).0 is

pub same_flag : (a : Bool) → is_same_flag a a ≡ true
same_flag true = refl
same_flag false = refl

pub flag_is : (a b : Bool) → is_same_flag a b ≡ true → a ≡ b
flag_is true true is = refl
flag_is true false is = absurd cc
flag_is false true is = absurd cc
flag_is false false is = refl

pub same_import : (import : ImportPart) → is_same_import import import ≡ true
same_import import = and_from (import.comp == import.comp) _ (eq-eqb import.comp import.comp refl)
    (eq-eqb import.index import.index refl)

pub import_is : (a b : ImportPart) → is_same_import a b ≡ true → a ≡ b
import_is a b is =
    let both = and_parts (a.comp == b.comp) _ is in
    let c = eqb-true a.comp b.comp both.0 in
    let n = eqb-true a.index b.index both.1 in
    λ i. record { comp = c i; index = n i }

same_export : (export : ExportPart) → is_same_export export export ≡ true
same_export export = and_from (is_same_name export.name export.name) _ (same_name export.name)
    (and_from (export.params == export.params) _ (eq-eqb export.params export.params refl)
    (and_from (is_same_flag export.result export.result) _ (same_flag export.result)
    (eq-eqb export.entry export.entry refl)))

export_is : (a b : ExportPart) → is_same_export a b ≡ true → a ≡ b
export_is a b is =
    let name = and_parts (is_same_name a.name b.name) _ is in
    let params = and_parts (a.params == b.params) _ name.1 in
    let result = and_parts (is_same_flag a.result b.result) _ params.1 in
    let n = name_is a.name b.name name.0 in
    let p = eqb-true a.params b.params params.0 in
    let r = flag_is a.result b.result result.0 in
    let e = eqb-true a.entry b.entry result.1 in
    λ i. record { name = n i; params = p i; result = r i; entry = e i }

-- Compartments.

same_outside : (a : CompPart) → is_same_outside a a ≡ true
same_outside a = and_from (is_same_name a.name a.name) _ (same_name a.name)
    (and_from (is_same_flag a.input a.input) _ (same_flag a.input)
    (and_from (is_same_flag a.output a.output) _ (same_flag a.output)
    (and_from (pointwise is_same_export a.exports a.exports) _
    (all_same is_same_export same_export a.exports) (all_same is_same_import same_import a.imports))))

pub seen_alike : (a b : CompPart) → is_same_outside a b ≡ true → seen_of a ≡ seen_of b
seen_alike a b is =
    let name = and_parts (is_same_name a.name b.name) _ is in
    let input = and_parts (is_same_flag a.input b.input) _ name.1 in
    let output = and_parts (is_same_flag a.output b.output) _ input.1 in
    let lists = and_parts (pointwise is_same_export a.exports b.exports) _ output.1 in
    let n = name_is a.name b.name name.0 in
    let in_is = flag_is a.input b.input input.0 in
    let out_is = flag_is a.output b.output output.0 in
    let e = same_lists is_same_export export_is a.exports b.exports lists.0 in
    let m = same_lists is_same_import import_is a.imports b.imports lists.1 in
    λ i. record {
      name = n i;
      input = in_is i;
      output = out_is i;
      heap = false;
      exports = e i;
      imports = m i;
      code = [];
      globals = [];
    }

pub alike_if_seen : (a b : CompPart) → seen_of a ≡ seen_of b → is_same_outside a b ≡ true
alike_if_seen a b seen = subst (λ (c : CompPart). is_same_outside a c ≡ true) seen (same_outside a)

pub same_inside : (a : CompPart) → is_same_inside a a ≡ true
same_inside a = and_from (is_same_flag a.heap a.heap) _ (same_flag a.heap)
    (and_from (is_same_name a.code a.code) _ (same_name a.code) (same_name a.globals))

-- a compartment is what is seen of it and its inside
pub comp_is_one : (a b : CompPart) → seen_of a ≡ seen_of b → is_same_inside a b ≡ true → a ≡ b
comp_is_one a b seen is =
    let heap = and_parts (is_same_flag a.heap b.heap) _ is in
    let lists = and_parts (is_same_name a.code b.code) _ heap.1 in
    let h = flag_is a.heap b.heap heap.0 in
    let c = name_is a.code b.code lists.0 in
    let g = name_is a.globals b.globals lists.1 in
    λ i. record {
      name = (seen i).name;
      input = (seen i).input;
      output = (seen i).output;
      heap = h i;
      exports = (seen i).exports;
      imports = (seen i).imports;
      code = c i;
      globals = g i;
    }
