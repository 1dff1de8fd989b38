-- Lists by places: what holds of each element, of each and the later ones, and where elements stand.
use Rattle.sc_linker.proofs.Common.{All, AllPairs, Bool, List, Some, [], and_first, and_rest, ap, are_distinct, arith}
use Rattle.sc_linker.proofs.Common.{bytes_eq, bytes_eq_self, false≢true, get_or, get_or_from_slice_get, length}
use Rattle.sc_linker.proofs.Common.{list_any, map, not, or_right, refl, slice_get, slice_get-get_or, slice_get_within}
use Rattle.sc_linker.proofs.Common.{subst, suc, sym, take, total, true, zero, ℕ, ◌++◌, ◌+◌, ◌<◌, ◌||◌, ◌∙◌, ◌∷◌, ◌≡◌}
use Rattle.sc_linker.proofs.Common.{◌≢◌, ◌≤◌}

module _ {A : Type 0} where
  pub all_from : (P : A → Type 0) (xs : List A) → ((i : ℕ) (x : A) → slice_get xs i ≡ Some x → P x) → All P xs
  all_from P xs h k d within = h k (get_or xs k d) (slice_get-get_or xs k d within)

  pub all_here : (P : A → Type 0) (xs : List A) → All P xs → (i : ℕ) (x : A) → slice_get xs i ≡ Some x → P x
  all_here P xs h i x is =
      subst P (get_or_from_slice_get xs i x x is) (h i x (slice_get_within xs i x is))

  pub pairs_from : (R : A → A → Type 0) (xs : List A) →
      ((i j : ℕ) (x y : A) → i < j → slice_get xs i ≡ Some x → slice_get xs j ≡ Some y → R x y) → AllPairs R xs
  pairs_from R xs h i j d before within =
      h i j (get_or xs i d) (get_or xs j d) before (slice_get-get_or xs i d (omega (arith, before, within)))
      (slice_get-get_or xs j d within)

  pub get_before : (xs ys : List A) (i : ℕ) (x : A) → slice_get xs i ≡ Some x → slice_get (xs ++ ys) i ≡ Some x
  get_before [] ys i x is = absurd (cc)
  get_before (y ∷ xs) ys zero x is = is
  get_before (y ∷ xs) ys (suc i) x is = get_before xs ys i x is

  pub get_after : (xs ys : List A) (i n : ℕ) → n ≡ length xs + i → slice_get (xs ++ ys) n ≡ slice_get ys i
  get_after [] ys i n is = ap (slice_get ys) (omega (arith, is))
  get_after (x ∷ xs) ys i n is =
      let e : n ≡ suc (length xs + i) = omega (arith, is) in
      ap (slice_get (x ∷ xs ++ ys)) e ∙ get_after xs ys i (length xs + i) refl

  pub there : (xs : List A) (i : ℕ) → i < length xs → (x : A) × (slice_get xs i ≡ Some x)
  there [] i within = absurd (omega (arith, within))
  there (x ∷ xs) zero within = (x, refl)
  there (x ∷ xs) (suc i) within = there xs i (omega (arith, within))

  any_at : (p : A → Bool) (xs : List A) (i : ℕ) (x : A) → slice_get xs i ≡ Some x → p x ≡ true → list_any p xs ≡ true
  any_at p [] i x is h = absurd (cc)
  any_at p (y ∷ ys) zero x is h =
      let same : y ≡ x = cc in ap (λ b. b || list_any p ys) (subst (λ z. p z ≡ true) (sym same) h)
  any_at p (y ∷ ys) (suc i) x is h = or_right (p y) _ (any_at p ys i x is h)

-- names that differ, by their places
pub distinct_at : (names : List (List ℕ)) → are_distinct names ≡ true → (i j : ℕ) (a b : List ℕ) → i < j →
    slice_get names i ≡ Some a → slice_get names j ≡ Some b → a ≢ b
distinct_at [] h i j a b before is at same = absurd (cc)
distinct_at (name ∷ names) h zero zero a b before is at same = absurd (omega (arith, before))
distinct_at (name ∷ names) h zero (suc j) a b before is at same =
    let own : name ≡ a = cc in
    let any : list_any (bytes_eq name) names ≡ true =
    any_at (bytes_eq name) names j b at (subst (λ x. bytes_eq name x ≡ true) (own ∙ same) (bytes_eq_self name)) in
    false≢true (sym (ap not any) ∙ and_first (not (list_any (bytes_eq name) names)) _ h)
distinct_at (name ∷ names) h (suc i) zero a b before is at same = absurd (omega (arith, before))
distinct_at (name ∷ names) h (suc i) (suc j) a b before is at same =
    distinct_at names (and_rest (not (list_any (bytes_eq name) names)) _ h) i j a b (omega (arith, before)) is at same

-- sums over the elements before a place
module _ {A : Type 0} (size : A → ℕ) where
  pub total_take : (xs : List A) (n : ℕ) → total (map size (take n xs)) ≤ total (map size xs)
  total_take [] zero = omega arith
  total_take [] (suc n) = omega arith
  total_take (x ∷ xs) zero = omega arith
  total_take (x ∷ xs) (suc n) = omega (arith, total_take xs n)

  pub total_upto : (xs : List A) (n : ℕ) (x : A) → slice_get xs n ≡ Some x →
      total (map size (take n xs)) + size x ≤ total (map size xs)
  total_upto [] n x is = absurd (cc)
  total_upto (y ∷ xs) zero x is =
      let same : y ≡ x = cc in let e : size y ≡ size x = ap size same in omega (arith, e)
  total_upto (y ∷ xs) (suc n) x is = omega (arith, total_upto xs n x is)

  -- an element's size fits between its place and a later one
  pub total_before : (xs : List A) (m n : ℕ) (x : A) → m < n → slice_get xs m ≡ Some x →
      total (map size (take m xs)) + size x ≤ total (map size (take n xs))
  total_before [] m n x before is = absurd (cc)
  total_before (y ∷ xs) m zero x before is = absurd (omega (arith, before))
  total_before (y ∷ xs) zero (suc n) x before is =
      let same : y ≡ x = cc in let e : size y ≡ size x = ap size same in omega (arith, e)
  total_before (y ∷ xs) (suc m) (suc n) x before is =
      omega (arith, total_before xs m n x (omega (arith, before)) is)
