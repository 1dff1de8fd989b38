-- Sorting by keys: the result of a stable sort is unique.
use Rattle.sc_alloc.proofs.Common.{All, All-cons, All-nil, All-tail, Bool, IsNonDecreasingBy, IsPermutation}
use Rattle.sc_alloc.proofs.Common.{IsPermutation-cons, IsPermutation-refl, IsPermutation-swap, IsPermutation-trans}
use Rattle.sc_alloc.proofs.Common.{IsStableByKey, List, [], ap, arith, cases_order, cond, false, filter, get_or}
use Rattle.sc_alloc.proofs.Common.{insert_by, is_lt, nat_cmp, nat_lt, nat_tests, not, refl, sorted_by, suc, sym, ties}
use Rattle.sc_alloc.proofs.Common.{true, zero, ℕ, ⊎_elim, ◌&&◌, ◌<◌, ◌∙◌, ◌∷◌, ◌≡◌, ◌≢◌, ◌≤◌}

equal_ties : (m n : ℕ) → m ≡ n → (not (is_lt (nat_cmp m n)) && not (is_lt (nat_cmp n m))) ≡ true
equal_ties m n same = grind (arith, nat_tests)

others_tie_not : (m n : ℕ) → m ≢ n → (not (is_lt (nat_cmp m n)) && not (is_lt (nat_cmp n m))) ≡ false
others_tie_not m n other = grind (arith, nat_tests)

-- of two keys, no third ties with both
tie_apart : (k m n : ℕ) → nat_lt m n ≡ true → ((not (is_lt (nat_cmp k m)) && not (is_lt (nat_cmp m k))) &&
    (not (is_lt (nat_cmp k n)) && not (is_lt (nat_cmp n k)))) ≡ false
tie_apart k m n less = grind (arith, nat_tests)

without_first : {A : Type 0} (b : Bool) (x : A) (ys zs : List A) → cond b (x ∷ ys) ys ≡ cond b (x ∷ zs) zs → ys ≡ zs
without_first true x ys zs same = cc
without_first false x ys zs same = same

-- two elements of which at most one passes stand in either order
either_order : {A : Type 0} (b c : Bool) (x y : A) (ys : List A) → (b && c) ≡ false →
    cond b (x ∷ cond c (y ∷ ys) ys) (cond c (y ∷ ys) ys) ≡ cond c (y ∷ cond b (x ∷ ys) ys) (cond b (x ∷ ys) ys)
either_order true true x y ys apart = absurd (cc apart)
either_order true false x y ys apart = refl
either_order false true x y ys apart = refl
either_order false false x y ys apart = refl

module _ {A : Type 0} (key : A → ℕ) where
  abbrev tie : A → A → Bool
  tie = ties (λ x y. is_lt (nat_cmp (key x) (key y)))

  abbrev Up : List A → Type 0
  Up xs = IsNonDecreasingBy key xs

  up_tail : (x : A) (xs : List A) → Up (x ∷ xs) → Up xs
  up_tail x xs up i j d le less = up (suc i) (suc j) d (omega (arith, le)) (omega (arith, less))

  up_cons : (x : A) (xs : List A) → All (λ y. key x ≤ key y) xs → Up xs → Up (x ∷ xs)
  up_cons x xs least up zero zero d le less = omega arith
  up_cons x xs least up zero (suc j) d le less = least j d (omega (arith, less))
  up_cons x xs least up (suc i) zero d le less = absurd (omega (arith, le))
  up_cons x xs least up (suc i) (suc j) d le less = up i j d (omega (arith, le)) (omega (arith, less))

  up_nil : Up []
  up_nil i j d le less = absurd (omega (arith, less))

  -- the first element ties with one before
  first_ties : (x y : A) (ys : List A) → key x ≡ key y → filter (tie x) (y ∷ ys) ≡ y ∷ filter (tie x) ys
  first_ties x y ys same =
      ap (λ b. cond b (y ∷ filter (tie x) ys) (filter (tie x) ys)) (equal_ties (key x) (key y) same)

  none_ties : (x : A) (ys : List A) → All (λ y. key x < key y) ys → filter (tie x) ys ≡ []
  none_ties x [] above = refl
  none_ties x (y ∷ ys) above =
      ap (λ b. cond b (y ∷ filter (tie x) ys) (filter (tie x) ys)) (others_tie_not (key x) (key y)
      (λ same. (let more : key x < key y = above 0 y (omega arith) in omega (arith, more, same)))) ∙
      none_ties x ys (All-tail (λ y. key x < key y) y ys above)

  -- the first element of one list has no lower key than that of another, where ties are the same
  no_lower : (y z : A) (ys zs : List A) → Up (z ∷ zs) → ((x : A) → filter (tie x) (y ∷ ys) ≡ filter (tie x) (z ∷ zs)) →
      key y < key z → ⊥
  no_lower y z ys zs up same less =
      (let above : All (λ w. key y < key w) (z ∷ zs) =
      λ k d within. (let le : key z ≤ key (get_or (z ∷ zs) k d) = up 0 k d (omega arith) within in
      omega (arith, le, less)) in
      let e : y ∷ filter (tie y) ys ≡ [] =
      sym (first_ties y y ys refl) ∙ same y ∙ none_ties y (z ∷ zs) above in cc)

  -- lists that rise are the same where their ties are
  same_order : (ys zs : List A) → Up ys → Up zs → ((x : A) → filter (tie x) ys ≡ filter (tie x) zs) → ys ≡ zs
  same_order [] [] up also same = refl
  same_order [] (z ∷ zs) up also same =
      absurd (let e : [] ≡ z ∷ filter (tie z) zs = same z ∙ first_ties z z zs refl in cc)
  same_order (y ∷ ys) [] up also same =
      absurd (let e : y ∷ filter (tie y) ys ≡ [] = sym (first_ties y y ys refl) ∙ same y in cc)
  same_order (y ∷ ys) (z ∷ zs) up also same = ⊎_elim
      (λ e. (let both : y ∷ filter (tie y) ys ≡ z ∷ filter (tie y) zs =
      sym (first_ties y y ys refl) ∙ same y ∙ first_ties y z zs e in
      let first : y ≡ z = cc in
      let rest = λ (x : A). without_first (tie x y) y (filter (tie x) ys) (filter (tie x) zs) (same x ∙
      ap (λ (w : A). cond (tie x w) (w ∷ filter (tie x) zs) (filter (tie x) zs)) (sym first)) in
      ap (λ (w : A). w ∷ ys) first ∙
      ap (λ (rest : List A). z ∷ rest) (same_order ys zs (up_tail y ys up) (up_tail z zs also) rest)))
      (⊎_elim
      (λ less. absurd (no_lower y z ys zs also same less))
      (λ more. absurd (no_lower z y zs ys up (λ x. sym (same x)) more)))
      (cases_order (key y) (key z))

  -- an element that is put in
  all_inserted : (P : A → Type 0) (x : A) (ys : List A) → P x → All P ys → All P (insert_by key x ys)
  all_inserted P x [] own all = All-cons P x [] own all
  all_inserted P x (y ∷ ys) own all =
      by (nat_lt (key y) (key x)) (all_inserted P x ys own (All-tail P y ys all))
    where
      by : (b : Bool) → All P (insert_by key x ys) → All P (cond b (y ∷ insert_by key x ys) (x ∷ y ∷ ys))
      by true rest = All-cons P y (insert_by key x ys) (all 0 y (omega arith)) rest
      by false rest = All-cons P x (y ∷ ys) own all

  up_inserted : (x : A) (ys : List A) → Up ys → Up (insert_by key x ys)
  up_inserted x [] up = up_cons x [] (All-nil (λ y. key x ≤ key y)) up
  up_inserted x (y ∷ ys) up = by (nat_lt (key y) (key x)) refl (up_inserted x ys (up_tail y ys up))
    where
      least : All (λ z. key y ≤ key z) ys
      least k d less = up 0 (suc k) d (omega arith) (omega (arith, less))

      by : (b : Bool) → nat_lt (key y) (key x) ≡ b → Up (insert_by key x ys) →
          Up (cond b (y ∷ insert_by key x ys) (x ∷ y ∷ ys))
      by true is rest = (let le : key y ≤ key x = grind (arith, nat_tests, is) in
          up_cons y (insert_by key x ys) (all_inserted (λ z. key y ≤ key z) x ys le least) rest)
      by false is rest = (let le : key x ≤ key y = grind (arith, nat_tests, is) in
          up_cons x (y ∷ ys)
          (All-cons (λ z. key x ≤ key z) y ys le (λ k d less. omega (arith, least k d less, le))) up)

  ties_inserted : (a x : A) (ys : List A) → filter (tie a) (insert_by key x ys) ≡ filter (tie a) (x ∷ ys)
  ties_inserted a x [] = refl
  ties_inserted a x (y ∷ ys) = by (nat_lt (key y) (key x)) refl (ties_inserted a x ys)
    where
      by : (b : Bool) → nat_lt (key y) (key x) ≡ b →
          filter (tie a) (insert_by key x ys) ≡ filter (tie a) (x ∷ ys) →
          filter (tie a) (cond b (y ∷ insert_by key x ys) (x ∷ y ∷ ys)) ≡ filter (tie a) (x ∷ y ∷ ys)
      by true is rest =
          ap (λ (zs : List A). cond (tie a y) (y ∷ zs) zs) rest ∙
          either_order (tie a y) (tie a x) y x (filter (tie a) ys) (tie_apart (key a) (key y) (key x) is)
      by false is rest = refl

  moved_inserted : (x : A) (ys : List A) → IsPermutation (x ∷ ys) (insert_by key x ys)
  moved_inserted x [] = IsPermutation-refl (x ∷ [])
  moved_inserted x (y ∷ ys) = by (nat_lt (key y) (key x)) (moved_inserted x ys)
    where
      by : (b : Bool) → IsPermutation (x ∷ ys) (insert_by key x ys) →
          IsPermutation (x ∷ y ∷ ys) (cond b (y ∷ insert_by key x ys) (x ∷ y ∷ ys))
      by true rest = IsPermutation-trans (x ∷ y ∷ ys) (y ∷ x ∷ ys) (y ∷ insert_by key x ys)
          (IsPermutation-swap (x ∷ y ∷ ys) (y ∷ x ∷ ys) 0 1 (omega arith) (omega arith) refl)
          (IsPermutation-cons y (x ∷ ys) (insert_by key x ys) rest)
      by false rest = IsPermutation-refl (x ∷ y ∷ ys)

  -- what sorting keeps
  pub sorted_up : (xs : List A) → Up (sorted_by key xs)
  sorted_up [] = up_nil
  sorted_up (x ∷ xs) = up_inserted x (sorted_by key xs) (sorted_up xs)

  sorted_ties : (a : A) (xs : List A) → filter (tie a) (sorted_by key xs) ≡ filter (tie a) xs
  sorted_ties a [] = refl
  sorted_ties a (x ∷ xs) = ties_inserted a x (sorted_by key xs) ∙
      ap (λ (zs : List A). cond (tie a x) (x ∷ zs) zs) (sorted_ties a xs)

  pub sorted_moved : (xs : List A) → IsPermutation xs (sorted_by key xs)
  sorted_moved [] = IsPermutation-refl []
  sorted_moved (x ∷ xs) = IsPermutation-trans (x ∷ xs) (x ∷ sorted_by key xs) (insert_by key x (sorted_by key xs))
      (IsPermutation-cons x xs (sorted_by key xs) (sorted_moved xs)) (moved_inserted x (sorted_by key xs))

  -- what a stable sort gives
  pub sorted_is : (xs ys : List A) → Up ys → IsStableByKey key nat_cmp xs ys → ys ≡ sorted_by key xs
  sorted_is xs ys up stable =
      same_order ys (sorted_by key xs) up (sorted_up xs) (λ x. stable x ∙ sym (sorted_ties x xs))
