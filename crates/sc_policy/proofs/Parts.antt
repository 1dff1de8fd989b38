-- Lists of words that are cut in two, and those that are too short or too long.
use Rattle.sc_policy.proofs.Common.{List, None, Text, [], ap, arith, drop, goal_part, length, map}
use Rattle.sc_policy.proofs.Common.{maybe_arg_of, maybe_test_of, min, pattern_count, pattern_part, refl, suc, sym, take}
use Rattle.sc_policy.proofs.Common.{zero, ℕ, ◌<◌, ◌∙◌, ◌∷◌, ◌≡◌, ◌≤◌}

module _ {A : Type 0} (f : A → Text) where
  taken : (n : ℕ) (xs : List A) → map f (take (min n (length xs)) xs) ≡ take n (map f xs)
  taken zero [] = refl
  taken (suc n) [] =
      let none : min (suc n) 0 ≡ 0 = omega arith in ap (λ k. map f (take k [])) none
  taken zero (x ∷ xs) =
      let none : min 0 (suc (length xs)) ≡ 0 = omega arith in ap (λ k. map f (take k (x ∷ xs))) none
  taken (suc n) (x ∷ xs) =
      let same : min (suc n) (suc (length xs)) ≡ suc (min n (length xs)) = omega arith in
      ap (λ k. map f (take k (x ∷ xs))) same ∙ ap (λ rest. f x ∷ rest) (taken n xs)

  dropped : (n : ℕ) (xs : List A) → map f (drop (min n (length xs)) xs) ≡ drop n (map f xs)
  dropped zero [] = refl
  dropped (suc n) [] =
      let none : min (suc n) 0 ≡ 0 = omega arith in ap (λ k. map f (drop k [])) none
  dropped zero (x ∷ xs) =
      let none : min 0 (suc (length xs)) ≡ 0 = omega arith in ap (λ k. map f (drop k (x ∷ xs))) none
  dropped (suc n) (x ∷ xs) =
      let same : min (suc n) (suc (length xs)) ≡ suc (min n (length xs)) = omega arith in
      ap (λ k. map f (drop k (x ∷ xs))) same ∙ dropped n xs

  same_length : (xs : List A) → length (map f xs) ≡ length xs
  same_length [] = refl
  same_length (x ∷ xs) = ap suc (same_length xs)

  pub pattern_is : (kind : Text) (xs : List A) (count : ℕ) → count ≡ pattern_count kind (length xs) →
      map f (take (min count (length xs)) xs) ≡ pattern_part kind (map f xs)
  pattern_is kind xs count is = taken count xs ∙
      ap (λ n. take n (map f xs)) (is ∙ ap (pattern_count kind) (sym (same_length xs)))

  pub goal_is : (kind : Text) (xs : List A) (count : ℕ) → count ≡ pattern_count kind (length xs) →
      map f (drop (min count (length xs)) xs) ≡ goal_part kind (map f xs)
  goal_is kind xs count is = dropped count xs ∙
      ap (λ n. drop n (map f xs)) (is ∙ ap (pattern_count kind) (sym (same_length xs)))

  pub short_test : (xs : List A) → 1 ≤ length xs → length xs < 2 → None ≡ maybe_test_of (map f xs)
  short_test [] some few = absurd (omega arith)
  short_test (a ∷ []) some few = refl
  short_test (a ∷ b ∷ xs) some few = absurd (omega arith)

  pub long_test : (xs : List A) → 3 ≤ length xs → None ≡ maybe_test_of (map f xs)
  long_test [] many = absurd (omega arith)
  long_test (a ∷ []) many = absurd (omega arith)
  long_test (a ∷ b ∷ []) many = absurd (omega arith)
  long_test (a ∷ b ∷ c ∷ xs) many = refl

  pub short_arg : (xs : List A) → 1 ≤ length xs → length xs < 4 → None ≡ maybe_arg_of (map f xs)
  short_arg [] some few = absurd (omega arith)
  short_arg (a ∷ []) some few = refl
  short_arg (a ∷ b ∷ []) some few = refl
  short_arg (a ∷ b ∷ c ∷ []) some few = refl
  short_arg (a ∷ b ∷ c ∷ d ∷ xs) some few = absurd (omega arith)

  pub long_arg : (xs : List A) → 5 ≤ length xs → None ≡ maybe_arg_of (map f xs)
  long_arg [] many = absurd (omega arith)
  long_arg (a ∷ []) many = absurd (omega arith)
  long_arg (a ∷ b ∷ []) many = absurd (omega arith)
  long_arg (a ∷ b ∷ c ∷ []) many = absurd (omega arith)
  long_arg (a ∷ b ∷ c ∷ d ∷ []) many = absurd (omega arith)
  long_arg (a ∷ b ∷ c ∷ d ∷ e ∷ xs) many = refl

pub ruleset parts = (pattern_is, goal_is)
