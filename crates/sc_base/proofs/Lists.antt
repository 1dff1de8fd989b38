-- Lists: elements at their places, prefixes and rests, one step of a loop, the first or the only one that passes, and
-- maps.
use Rattle.sc_base.proofs.Common.{All, Bool, List, None, Some, [], add-one, and_from, and_parts, ap, arith, cases_lt}
use Rattle.sc_base.proofs.Common.{cond, drop, drop-cons, false, find, get_or, if◌then◌else◌, length, list_all, lt-ltb}
use Rattle.sc_base.proofs.Common.{ltb, map, nat_lt, not, position, position_or_len, refl, slice_get, subst, suc, sym}
use Rattle.sc_base.proofs.Common.{take, take_more, true, zero, ℕ, ⊎_elim, ◌++◌, ◌+◌, ◌<◌, ◌∙◌, ◌∷◌, ◌≡◌, ◌≤◌}
pub use Rattle.std.specs.List.{AllByRecursion as Each}
use Rattle.std.specs.Option.{option_map}
use Rattle.std.proofs.lemmas.List.Quantifiers.{position-Some}
use Rattle.std.proofs.lemmas.List.Sums.{passes_at_first, fails_before_first}
use Rattle.std.proofs.lemmas.Option.{get_or_from_slice_get, slice_get-get_or, slice_get_within}

-- P of each in every list, where it holds of every one
pub everywhere : {A : Type 0} (P : A → Type 0) → ((x : A) → P x) → (xs : List A) → Each P xs
everywhere P h [] = tt
everywhere P h (x ∷ xs) = (h x, everywhere P h xs)

-- the element after a prefix
pub get_after : {A : Type 0} (xs : List A) (y : A) (ys : List A) → slice_get (xs ++ y ∷ ys) (length xs) ≡ Some y
get_after [] y ys = refl
get_after (x ∷ xs) y ys = get_after xs y ys

-- what stands at a number below the length
pub is_there : {A : Type 0} (xs : List A) (i : ℕ) → i < length xs → (x : A) × (slice_get xs i ≡ Some x)
is_there [] i h = absurd (omega arith)
is_there (x ∷ xs) zero h = (x, refl)
is_there (x ∷ xs) (suc i) h = is_there xs i (omega arith)

-- an element of the first of two lists in a row
pub get_prefix : {A : Type 0} (xs ys : List A) (i : ℕ) → i < length xs → slice_get (xs ++ ys) i ≡ slice_get xs i
get_prefix [] ys i h = absurd (omega arith)
get_prefix (x ∷ xs) ys zero h = refl
get_prefix (x ∷ xs) ys (suc i) h = get_prefix xs ys i (omega arith)

-- the first that passes is one of the list
pub position_within : {A : Type 0} (test : A → Bool) (xs : List A) (i : ℕ) → position test xs ≡ Some i → i < length xs
position_within test [] i is = cc is
position_within test (x ∷ xs) i is = (position-Some test (x ∷ xs) i x is).0

-- what holds of all holds at each place, and what holds at each place holds of all
pub all_at : {A : Type 0} (P : A → Type 0) (xs : List A) (i : ℕ) (x : A) → All P xs → slice_get xs i ≡ Some x → P x
all_at P xs i x all e = subst P (get_or_from_slice_get xs i x x e) (all i x (slice_get_within xs i x e))

pub all_by : {A : Type 0} (P : A → Type 0) (xs : List A) → ((i : ℕ) (x : A) → slice_get xs i ≡ Some x → P x) → All P xs
all_by P xs h = λ i d within. h i (get_or xs i d) (slice_get-get_or xs i d within)

-- as many elements as a list has, or more
pub take_all : {A : Type 0} (n : ℕ) (xs : List A) → length xs ≤ n → take n xs ≡ xs
take_all zero [] h = refl
take_all (suc n) [] h = refl
take_all zero (x ∷ xs) h = absurd (omega arith)
take_all (suc n) (x ∷ xs) h = ap (λ rest. x ∷ rest) (take_all n xs (omega arith))

pub take_prefix : {A : Type 0} (xs ys : List A) → take (length xs) (xs ++ ys) ≡ xs
take_prefix [] ys = refl
take_prefix (x ∷ xs) ys = ap (λ rest. x ∷ rest) (take_prefix xs ys)

pub drop_next : {A : Type 0} (xs : List A) (i : ℕ) → drop 1 (drop i xs) ≡ drop (suc i) xs
drop_next [] zero = refl
drop_next (x ∷ xs) (suc i) = drop_next xs i
drop_next _ _ = refl

-- one step of a loop over a list: what is left, and what was
pub drop-step : {A : Type 0} (xs : List A) (i : ℕ) (x : A) → i < length xs → x ≡ get_or xs i x →
    drop i xs ≡ x ∷ drop (i + 1) xs
drop-step xs i x lt is = rw (add-one, drop-cons xs i x) (ap (λ y. y ∷ drop (suc i) xs) (sym is))

pub take-step : {A : Type 0} (xs : List A) (i : ℕ) (x : A) → i < length xs → x ≡ get_or xs i x →
    take (i + 1) xs ≡ take i xs ++ x ∷ []
take-step xs i x lt is = take_more xs i x lt ∙ ap (λ y. take i xs ++ y ∷ []) (sym is)

-- what is found passes
pub find_passes : {A : Type 0} (p : A → Bool) (xs : List A) (x : A) → find p xs ≡ Some x → p x ≡ true
find_passes p [] x e = cc
find_passes {A} p (y ∷ xs) x e = go (p y) refl (find_passes p xs x)
  where
    go : (b : Bool) → p y ≡ b → (find p xs ≡ Some x → p x ≡ true) → p x ≡ true
    go true is later =
        let here : Some y ≡ Some x = rw is at e in
        let same : y ≡ x = cc in
        rw (← same) is
    go false is later = later (rw is at e)

pub map_twice : {A B C : Type 0} (f : B → C) (g : A → B) (xs : List A) → map f (map g xs) ≡ map (λ x. f (g x)) xs
map_twice f g [] = refl
map_twice f g (x ∷ xs) = ap (λ rest. f (g x) ∷ rest) (map_twice f g xs)

-- a test that another implies
pub list_all_along : {A : Type 0} (p q : A → Bool) → ((x : A) → p x ≡ true → q x ≡ true) → (xs : List A) →
    list_all p xs ≡ true → list_all q xs ≡ true
list_all_along p q on [] h = refl
list_all_along p q on (x ∷ xs) h =
    let parts = and_parts (p x) (list_all p xs) h in and_from (q x) (list_all q xs) (on x parts.0)
    (list_all_along p q on xs parts.1)

suc_within : (k n : ℕ) → ltb (suc k) (suc n) ≡ ltb k n
suc_within k n = grind arith

within_suc : (k n : ℕ) → cond (ltb (suc k) (suc n)) (Some (suc k)) None ≡ option_map suc (cond (ltb k n) (Some k) None)
within_suc k n = ap (λ b. cond b (Some (suc k)) None) (suc_within k n) ∙ by (ltb k n) where
  by : (b : Bool) → cond b (Some (suc k)) None ≡ option_map suc (cond b (Some k) None)
  by true = refl
  by false = refl

one_more : (k : ℕ) → 1 + k ≡ suc k
one_more k = omega arith

zero_within : (n : ℕ) → ltb 0 (suc n) ≡ true
zero_within n = grind arith

-- the first place that passes a test, step by step
pub position-cons : {X : Type 0} (p : X → Bool) (x : X) (xs : List X) →
    position p (x ∷ xs) ≡ cond (p x) (Some 0) (option_map suc (position p xs))
position-cons p x xs = by (p x) where
  by : (b : Bool) → cond (ltb (cond (not b) (1 + position_or_len p xs) 0) (suc (length xs)))
      (Some (cond (not b) (1 + position_or_len p xs) 0)) None ≡ cond b (Some 0) (option_map suc (position p xs))
  by true = ap (λ b. cond b (Some 0) None) (zero_within (length xs))
  by false = ap (λ k. cond (ltb k (suc (length xs))) (Some k) None) (one_more (position_or_len p xs)) ∙
      within_suc (position_or_len p xs) (length xs)

pub position_map : {A B : Type 0} (f : A → B) (p : B → Bool) (xs : List A) →
    position p (map f xs) ≡ position (λ x. p (f x)) xs
position_map f p [] = refl
position_map f p (x ∷ xs) = position-cons p (f x) (map f xs) ∙ ap (λ o. cond (p (f x)) (Some 0) (option_map suc o))
    (position_map f p xs) ∙ sym (position-cons (λ x. p (f x)) x xs)

not_both : (b : Bool) → b ≡ true → b ≡ false → ⊥
not_both b holds fails = let never : true ≡ false = sym holds ∙ fails in cc never

-- where a test passes at one place only, that is the first
pub position_of_only : {A : Type 0} (p : A → Bool) (xs : List A) (k : ℕ) (d : A) → k < length xs →
    p (get_or xs k d) ≡ true → ((j : ℕ) → j < length xs → p (get_or xs j d) ≡ true → j ≡ k) → position p xs ≡ Some k
position_of_only p xs k d within at only =
    let not_later : position_or_len p xs ≤ k =
    ⊎_elim (λ late. absurd (not_both (p (get_or xs k d)) at (fails_before_first p xs k d late))) (λ early. early)
    (cases_lt k (position_or_len p xs)) in
    let there : position_or_len p xs < length xs = omega (arith, not_later, within) in
    let same : position_or_len p xs ≡ k = only (position_or_len p xs) there (passes_at_first p xs d there) in
    rw same (within_is k (length xs) within)
  where
    within_is : (n m : ℕ) → n < m → (if nat_lt n m then Some n else None) ≡ Some n
    within_is n m h = rw (lt-ltb n m h) refl
