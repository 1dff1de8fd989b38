-- Digits are read one by one.
use Rattle.std.proofs.Common.{Bool, List, None, Option, Some, [], ap, arith, cond, false, nat_le, refl, true, ℕ}
use Rattle.std.proofs.Common.{◌&&◌, ◌*◌, ◌+◌, ◌-◌, ◌<◌, ◌∙◌, ◌∷◌, ◌≡◌, ◌≤◌}
use Rattle.std.proofs.lemmas.Bool.{lt-leb}
use Rattle.std.proofs.lemmas.Str.{digit_value_digit}
use Rattle.std.specs.Char.{digit_value, is_ascii_digit}
use Rattle.std.specs.Str.{all_ascii_digits}
use Rattle.std.specs.Str.Parse.{digits_value_after}

grows : (n : ℕ) (cs : List ℕ) → n ≤ digits_value_after 10 n cs
grows n [] = omega arith
grows n (c ∷ cs) = omega (arith, grows (n * 10 + digit_value c) cs)

-- the number of digits of which those before `rest` have this value, if it isn't too great
abbrev pub read_on : (most value : ℕ) → List ℕ → Option ℕ
read_on most value rest =
    cond (all_ascii_digits rest && nat_le (digits_value_after 10 value rest) most)
    (Some (digits_value_after 10 value rest)) None

digit_is : (c : ℕ) → is_ascii_digit c ≡ true → digit_value c ≡ c - 48
digit_is c digit = grind (arith, digit_value_digit)

both_false : (b : Bool) → (b && false) ≡ false
both_false true = refl
both_false false = refl

pub too_great : (most value c : ℕ) (cs : List ℕ) → is_ascii_digit c ≡ true → most < value * 10 + (c - 48) →
    read_on most value (c ∷ cs) ≡ None
too_great most value c cs digit great =
    let is = digit_is c digit in
    let total : ℕ = digits_value_after 10 (value * 10 + digit_value c) cs in
    let least : value * 10 + digit_value c ≤ total = grows (value * 10 + digit_value c) cs in
    let fails : nat_le total most ≡ false = lt-leb total most (omega (arith, is, least, great)) in
    ap (λ b. cond (is_ascii_digit c && all_ascii_digits cs && b) (Some total) None) fails ∙
    ap (λ b. cond b (Some total) None) (both_false (is_ascii_digit c && all_ascii_digits cs))
