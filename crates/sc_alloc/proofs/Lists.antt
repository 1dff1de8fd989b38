-- Lists that grow at their end, and what is at each place.
use Rattle.sc_alloc.proofs.Common.{Bool, IsTrue, List, None, Option, Some, [], ap, arith, false, inl, inr, length}
use Rattle.sc_alloc.proofs.Common.{list_all, option_map, position, position-cons, refl, same_Some, slice_get, slice_set}
use Rattle.sc_alloc.proofs.Common.{suc, sym, true, zero, ℕ, ⊎_elim, ◌++◌, ◌<◌, ◌∙◌, ◌∷◌, ◌≡◌, ◌≢◌, ◌⊎◌}

-- an element of a list with one more at its end
pub get_pushed : {A : Type 0} (xs : List A) (x y : A) (i : ℕ) → slice_get (xs ++ x ∷ []) i ≡ Some y →
    (slice_get xs i ≡ Some y) ⊎ ((i ≡ length xs) × (x ≡ y))
get_pushed [] x y zero e = inr (refl, same_Some x y e)
get_pushed [] x y (suc i) e = absurd (cc e)
get_pushed (z ∷ xs) x y zero e = inl e
get_pushed (z ∷ xs) x y (suc i) e =
    ⊎_elim inl (λ is. inr (ap suc is.0, is.1)) (get_pushed xs x y i e)

pub get_kept : {A : Type 0} (xs ys : List A) (x : A) (i : ℕ) → slice_get xs i ≡ Some x →
    slice_get (xs ++ ys) i ≡ Some x
get_kept [] ys x i e = absurd (cc e)
get_kept (z ∷ xs) ys x zero e = e
get_kept (z ∷ xs) ys x (suc i) e = get_kept xs ys x i e

pub get_set_same : {A : Type 0} (xs : List A) (i : ℕ) (x : A) → i < length xs → slice_get (slice_set xs i x) i ≡ Some x
get_set_same [] i x h = absurd (omega arith)
get_set_same (z ∷ xs) zero x h = refl
get_set_same (z ∷ xs) (suc i) x h = get_set_same xs i x (omega (arith, h))

pub get_set_other : {A : Type 0} (xs : List A) (i j : ℕ) (x : A) → i ≢ j →
    slice_get (slice_set xs i x) j ≡ slice_get xs j
get_set_other [] i j x h = refl
get_set_other (z ∷ xs) zero zero x h = absurd (h refl)
get_set_other (z ∷ xs) zero (suc j) x h = refl
get_set_other (z ∷ xs) (suc i) zero x h = refl
get_set_other (z ∷ xs) (suc i) (suc j) x h = get_set_other xs i j x (λ e. h (ap suc e))

none_after : (o : Option ℕ) → option_map suc o ≡ None → o ≡ None
none_after None same = refl
none_after (Some k) same = absurd (cc same)

first_fails : {A : Type 0} (p : A → Bool) (x : A) (xs : List A) (b : Bool) → p x ≡ b → position p (x ∷ xs) ≡ None →
    (b ≡ false) × (position p xs ≡ None)
first_fails p x xs true is none =
    absurd (let first : position p (x ∷ xs) ≡ Some 0 = position-cons p x xs ∙ rw is refl in cc)
first_fails p x xs false is none =
    (refl, none_after (position p xs) (sym (position-cons p x xs ∙ rw is refl) ∙ none))

-- where no element passes a test, each fails it
pub all_fail : {A : Type 0} (p : A → Bool) (xs : List A) (i : ℕ) (x : A) → position p xs ≡ None →
    slice_get xs i ≡ Some x → p x ≡ false
all_fail p [] i x none e = absurd (cc e)
all_fail p (z ∷ xs) zero x none e =
    ap p (sym (same_Some z x e)) ∙ (first_fails p z xs (p z) refl none).0
all_fail p (z ∷ xs) (suc i) x none e = all_fail p xs i x (first_fails p z xs (p z) refl none).1 e

-- a test that each element passes
pub all_at : {A : Type 0} (test : A → Bool) (xs : List A) →
    ((i : ℕ) (x : A) → slice_get xs i ≡ Some x → IsTrue (test x)) → IsTrue (list_all test xs)
all_at test [] h = refl
all_at test (x ∷ xs) h = rw (h 0 x refl) (all_at test xs (λ i. h (suc i)))

-- lists with the same element at each place
pub same_all : {A : Type 0} (xs ys : List A) → ((i : ℕ) → slice_get xs i ≡ slice_get ys i) → xs ≡ ys
same_all [] [] same = refl
same_all [] (y ∷ ys) same = absurd (let e : None ≡ Some y = same 0 in cc)
same_all (x ∷ xs) [] same = absurd (let e : Some x ≡ None = same 0 in cc)
same_all (x ∷ xs) (y ∷ ys) same =
    (let first : x ≡ y = same_Some x y (same 0) in
    let rest : xs ≡ ys = same_all xs ys (λ i. same (suc i)) in cc)
