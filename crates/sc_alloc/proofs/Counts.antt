-- Where a count is at most one, a test passes at one place at most.
use Rattle.sc_alloc.proofs.Common.{Bool, Interval, List, Some, [], ap, arith, cases_eq, cond, count_by, eq-eqb, nat_eq}
use Rattle.sc_alloc.proofs.Common.{ne_eqb, refl, same_Some, slice_get, suc, sum_by-cons, true, zero, ℕ, ⊎_elim, ◌+◌}
use Rattle.sc_alloc.proofs.Common.{◌<◌, ◌∙◌, ◌∷◌, ◌≡◌, ◌≢◌, ◌≤◌}

module _ {A : Type 0} (p : A → Bool) where
  abbrev pub one : A → ℕ
  one x = cond (p x) 1 0

  split : (x : A) (xs : List A) → count_by p (x ∷ xs) ≡ one x + count_by p xs
  split x xs = sum_by-cons one x xs

  passes : (x y : A) → x ≡ y → p y ≡ true → one x ≡ 1
  passes x y same is = rw (ap p same ∙ is) refl

  never : (xs : List A) (i : ℕ) (x : A) → count_by p xs ≡ 0 → slice_get xs i ≡ Some x → p x ≡ true → ⊥
  never [] i x none at is = cc at
  never (z ∷ xs) zero x none at is = omega (arith, none, split z xs, passes z x (same_Some z x at) is)
  never (z ∷ xs) (suc i) x none at is = never xs i x (omega (arith, none, split z xs)) at is

  pub only : (xs : List A) (i j : ℕ) (x y : A) → count_by p xs ≤ 1 → slice_get xs i ≡ Some x → slice_get xs j ≡ Some y →
      p x ≡ true → p y ≡ true → i ≡ j
  only [] i j x y few at other is so = absurd (cc at)
  only (z ∷ xs) zero zero x y few at other is so = refl
  only (z ∷ xs) zero (suc j) x y few at other is so =
      absurd (never xs j y (omega (arith, few, split z xs, passes z x (same_Some z x at) is)) other so)
  only (z ∷ xs) (suc i) zero x y few at other is so =
      absurd (never xs i x (omega (arith, few, split z xs, passes z y (same_Some z y other) so)) at is)
  only (z ∷ xs) (suc i) (suc j) x y few at other is so =
      ap suc (only xs i j x y (omega (arith, few, split z xs)) at other is so)

abbrev pub has_temp : ℕ → Interval → Bool
has_temp t x = nat_eq x.temp t

-- each stands at the number of its temporary, counted from a number on
abbrev NumberedFrom : ℕ → List Interval → Type 0
NumberedFrom n xs = (i : ℕ) (x : Interval) → slice_get xs i ≡ Some x → x.temp ≡ n + i

is_no : (t : ℕ) (x : Interval) → x.temp ≢ t → one (has_temp t) x ≡ 0
is_no t x other = rw (ne_eqb x.temp t other) refl

is_yes : (t : ℕ) (x : Interval) → x.temp ≡ t → one (has_temp t) x ≡ 1
is_yes t x same = rw (eq-eqb x.temp t same) refl

later : (n : ℕ) (x : Interval) (xs : List Interval) → NumberedFrom n (x ∷ xs) → NumberedFrom (suc n) xs
later n x xs h i y at = omega (arith, h (suc i) y at)

none_before : (t n : ℕ) (xs : List Interval) → t < n → NumberedFrom n xs → count_by (has_temp t) xs ≡ 0
none_before t n [] less h = refl
none_before t n (x ∷ xs) less h =
    (let here : x.temp ≡ n + 0 = h 0 x refl in
    let rest : count_by (has_temp t) xs ≡ 0 = none_before t (suc n) xs (omega (arith, less)) (later n x xs h) in
    omega (arith, split (has_temp t) x xs, rest, is_no t x (λ e. omega (arith, here, less, e))))

pub once_from : (t n : ℕ) (xs : List Interval) → NumberedFrom n xs → count_by (has_temp t) xs ≤ 1
once_from t n [] h = omega arith
once_from t n (x ∷ xs) h =
    (let here : x.temp ≡ n + 0 = h 0 x refl in
    ⊎_elim
    (λ same. (let rest : count_by (has_temp t) xs ≡ 0 =
    none_before t (suc n) xs (omega (arith, here, same)) (later n x xs h) in
    omega (arith, split (has_temp t) x xs, rest, is_yes t x same)))
    (λ other. omega (arith, split (has_temp t) x xs, once_from t (suc n) xs (later n x xs h), is_no t x other))
    (cases_eq x.temp t))
