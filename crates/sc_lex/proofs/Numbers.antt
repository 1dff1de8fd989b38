-- The number that digits stand for.
use Rattle.sc_lex.proofs.Common.{Bool, List, None, Option, Some, [], and_left, and_right, ap, arith, cond, digit_value}
use Rattle.sc_lex.proofs.Common.{drop, false, fold, fold-append, fold_more, get_or, is_digit_of, is_empty}
use Rattle.sc_lex.proofs.Common.{is_number_within}
use Rattle.sc_lex.proofs.Common.{le-leb, le-ltb, length, list_all, list_all_at, lt-leb, not, digits_number, refl, sym}
use Rattle.sc_lex.proofs.Common.{take}
use Rattle.sc_lex.proofs.Common.{take-append-drop, take_all, true, ℕ, ◌&&◌, ◌*◌, ◌+◌, ◌<◌, ◌∙◌, ◌∷◌, ◌≡◌, ◌≤◌}
use Rattle.std.proofs.Math.Nat.{mul-le-mul_left}

pub product_fits : (value base : ℕ) → value ≤ 4294967295 → base ≤ 16 → value * base ≤ 68719476720
product_fits value base h k = omega (arith, mul-le-mul_left value k)

both_true : (b : Bool) → (b && true && true) ≡ b
both_true true = refl
both_true false = refl

module _ (base : ℕ) where
  number_grows : 1 ≤ base → (ds : List ℕ) (v : ℕ) → v ≤ fold (λ value digit. value * base + digit_value digit) v ds
  number_grows some [] v = omega arith
  number_grows some (d ∷ ds) v = omega (arith, number_grows some ds (v * base + digit_value d), mul-le-mul_left v some)

  -- the digits so far
  pub record IsRead (digits : List ℕ) (i value greatest : ℕ) : Type 0 where
    pub low : value ≤ greatest
    pub value_is : value ≡ digits_number base (take i digits)
    pub all : list_all (λ digit. is_digit_of base digit) (take i digits) ≡ true

  pub no_digit : (digits : List ℕ) (i greatest d : ℕ) → i < length digits → d ≡ digit_value (get_or digits i 0) →
      base ≤ d → is_number_within base greatest digits ≡ false
  unfolding is_number_within
  no_digit digits i greatest d less is high =
      let fails = le-ltb (digit_value (get_or digits i 0)) base (rw is at high) in
      and_left _ _ (and_right _ _ (list_all_at _ digits i 0 less fails))

  pub too_great : (digits : List ℕ) (i value greatest d : ℕ) → 1 ≤ base → IsRead digits i value greatest →
      i < length digits → d ≡ digit_value (get_or digits i 0) → greatest < value * base + d →
      is_number_within base greatest digits ≡ false
  unfolding is_number_within
  too_great digits i value greatest d some h less is high =
      let step = fold_more (λ value digit. value * base + digit_value digit) 0 digits i 0 less in
      let prefix : digits_number base (take (i + 1) digits) ≡ value * base + d = step ∙ rw (is, h.value_is) in
      let whole : digits_number base digits ≡ fold (λ value digit. value * base + digit_value digit)
      (digits_number base (take _ digits)) (drop (i + 1) digits) =
      ap (digits_number base) (sym (take-append-drop (i + 1) digits)) ∙
      fold-append (λ value digit. value * base + digit_value digit) 0 (take (i + 1) digits) (drop (i + 1) digits) in
      and_right _ _ (lt-leb (digits_number base digits) greatest
      (omega (arith, number_grows some (drop (i + 1) digits) (digits_number base (take (i + 1) digits)))))

  pub all_read : (digits : List ℕ) (i value greatest : ℕ) → IsRead digits i value greatest → length digits ≤ i →
      is_number_within base greatest digits ≡ not (is_empty digits)
  unfolding is_number_within
  all_read digits i value greatest h past =
      let whole = take_all i digits past in
      let all : list_all _ digits ≡ true = rw whole at h.all in
      let same : value ≡ digits_number base digits = rw whole at h.value_is in
      let low = le-leb _ _ (rw same at h.low) in
      rw (all, low) (both_true (not _))

  -- the number, where it is one
  abbrev answer : List ℕ → ℕ → Option ℕ
  answer digits greatest = cond (is_number_within base greatest digits) (Some (digits_number base digits)) None

  pub none_stands : (digits : List ℕ) (greatest : ℕ) → is_number_within base greatest digits ≡ false →
      None ≡ answer digits greatest
  none_stands digits greatest h = ap (λ b. cond b (Some (digits_number base digits)) None) (sym h)

  pub empty_stands : (digits : List ℕ) (i value greatest : ℕ) → IsRead digits i value greatest → length digits ≤ i →
      is_empty digits ≡ true → None ≡ answer digits greatest
  empty_stands digits i value greatest h past empty =
      none_stands digits _ (all_read digits i value _ h past ∙ ap (λ b. not b) empty)

  pub some_stands : (digits : List ℕ) (i value greatest : ℕ) → IsRead digits i value greatest → length digits ≤ i →
      is_empty digits ≡ false → Some value ≡ answer digits greatest
  some_stands digits i value greatest h past some =
      let whole = take_all i digits past in
      let same : value ≡ digits_number base digits = rw whole at h.value_is in
      ap (λ k. Some k) same ∙ ap (λ b. cond b (Some (digits_number base digits)) None)
      (sym (all_read digits i value _ h past ∙ ap (λ b. not b) some))

pub ruleset numbers = (product_fits)
