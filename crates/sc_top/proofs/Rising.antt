-- Rising lists of numbers: two with the same elements are the same.
use Rattle.sc_top.proofs.Common.{AllByRecursion, Bool, List, [], ap₂, arith, false, false≢true, is_listed, length, refl}
use Rattle.sc_top.proofs.Common.{slice_index_or, subst, suc, sym, true, zero, ℕ, ◌<◌, ◌==◌, ◌||◌, ◌∙◌, ◌∷◌, ◌≡◌, ◌≤◌}
use Rattle.std.proofs.lemmas.Bool.Decides.{Decides-eqb}
use Rattle.std.specs.Prelude.{AllPairs}

abbrev pub Rises : List ℕ → Type 0
Rises xs = AllPairs (λ x later. x < later) xs

same_number : (a b : ℕ) → (a == b) ≡ true → a ≡ b
same_number a b is = (Decides-eqb a b).0 is

is_itself : (a : ℕ) → (a == a) ≡ true
is_itself a = (Decides-eqb a a).1 refl

-- the first element is below the others, which rise
above : (x : ℕ) (xs : List ℕ) → ((j d : ℕ) → j < length xs → x < slice_index_or xs j d) →
    AllByRecursion (λ y. x < y) xs
above x [] each = tt
above x (y ∷ ys) each = (each 0 0 (omega arith), above x ys (λ j d within. each (suc j) d (omega (arith, within))))

first_below : (x : ℕ) (xs : List ℕ) → Rises (x ∷ xs) → AllByRecursion (λ y. x < y) xs
first_below x xs rises = above x xs (λ j d within. rises 0 (suc j) d (omega arith) (omega (arith, within)))

later_rise : (x : ℕ) (xs : List ℕ) → Rises (x ∷ xs) → Rises xs
later_rise x xs rises =
    λ i j d less within. rises (suc i) (suc j) d (omega (arith, less)) (omega (arith, within))

not_listed : (x : ℕ) (ys : List ℕ) → AllByRecursion (λ y. x < y) ys → is_listed ys x ≡ false
not_listed x [] all = refl
not_listed x (y ∷ ys) all = by (y == x) refl (not_listed x ys all.1) where
  by : (same : Bool) → (y == x) ≡ same → is_listed ys x ≡ false → (same || is_listed ys x) ≡ false
  by true is none = let less = all.0 in let equal = same_number y x is in absurd (omega (arith, less, equal))
  by false is none = none

within_above : (x y : ℕ) (zs : List ℕ) → AllByRecursion (λ z. x < z) zs → is_listed zs y ≡ true → x ≤ y
within_above x y [] all is = absurd (false≢true is)
within_above x y (z ∷ zs) all is = by (z == y) refl (within_above x y zs all.1) is where
  by : (same : Bool) → (z == y) ≡ same → (is_listed zs y ≡ true → x ≤ y) → (same || is_listed zs y) ≡ true → x ≤ y
  by true at later found = let less = all.0 in let equal = same_number z y at in omega (arith, less, equal)
  by false at later found = later found

-- the first element is the least
is_least : (x y : ℕ) (xs : List ℕ) → Rises (x ∷ xs) → is_listed (x ∷ xs) y ≡ true → x ≤ y
is_least x y xs rises is = by (x == y) refl (within_above x y xs (first_below x xs rises)) is where
  by : (same : Bool) → (x == y) ≡ same → (is_listed xs y ≡ true → x ≤ y) → (same || is_listed xs y) ≡ true → x ≤ y
  by true at later found = let equal = same_number x y at in omega (arith, equal)
  by false at later found = later found

first_listed : (x : ℕ) (xs : List ℕ) → is_listed (x ∷ xs) x ≡ true
first_listed x xs = by (x == x) (is_itself x) where
  by : (same : Bool) → same ≡ true → (same || is_listed xs x) ≡ true
  by true is = refl
  by false is = absurd (false≢true is)

-- without their first elements too
later_within : (x : ℕ) (xs ys : List ℕ) → Rises (x ∷ xs) →
    ((c : ℕ) → is_listed (x ∷ xs) c ≡ true → is_listed (x ∷ ys) c ≡ true) → (c : ℕ) →
    is_listed xs c ≡ true → is_listed ys c ≡ true
later_within x xs ys rises forth c is = by (x == c) refl (forth c) where
  by : (same : Bool) → (x == c) ≡ same →
      ((same || is_listed xs c) ≡ true → (same || is_listed ys c) ≡ true) → is_listed ys c ≡ true
  by true at found =
      let equal = same_number x c at in
      let none = subst (λ n. is_listed xs n ≡ false) equal (not_listed x xs (first_below x xs rises)) in
      absurd (false≢true (sym none ∙ is))
  by false at found = found is

pub one_rising : (xs ys : List ℕ) → Rises xs → Rises ys →
    ((c : ℕ) → is_listed xs c ≡ true → is_listed ys c ≡ true) →
    ((c : ℕ) → is_listed ys c ≡ true → is_listed xs c ≡ true) → xs ≡ ys
one_rising [] [] rises others forth back = refl
one_rising [] (y ∷ ys) rises others forth back = absurd (false≢true (back y (first_listed y ys)))
one_rising (x ∷ xs) [] rises others forth back = absurd (false≢true (forth x (first_listed x xs)))
one_rising (x ∷ xs) (y ∷ ys) rises others forth back =
    let low = is_least x y xs rises (back y (first_listed y ys)) in
    let high = is_least y x ys others (forth x (first_listed x xs)) in
    let same : y ≡ x = omega (arith, low, high) in
    let risen : Rises (x ∷ ys) = subst (λ n. Rises (n ∷ ys)) same others in
    ap₂ (λ n ns. n ∷ ns) (sym same) (one_rising xs ys (later_rise x xs rises) (later_rise x ys risen)
    (later_within x xs ys rises (subst (λ n. (c : ℕ) → is_listed (x ∷ xs) c ≡ true → is_listed (n ∷ ys) c ≡ true)
    same forth))
    (later_within x ys xs risen (subst (λ n. (c : ℕ) → is_listed (n ∷ ys) c ≡ true → is_listed (x ∷ xs) c ≡ true)
    same back)))
