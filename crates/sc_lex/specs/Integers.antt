-- Integer constants (C11 6.4.4.1) of at most 32 bits.
use Rattle.sc_base.specs.Prelude.{is_between}
use Rattle.std.specs.Prelude.{ℕ, ◌+◌, ◌-◌, ◌*◌, Bool, not, ◌&&◌, ◌||◌, ◌==◌, nat_lt, nat_le, List, length, take, drop}
use Rattle.std.specs.Prelude.{fold, slice_index, Option, Some, None, if◌then◌else◌}
use Rattle.std.specs.List.{list_all}
use Rattle.sc_lex.specs.Words.{is_empty}
use Rattle.sc_lex.specs.declared.integer.IntegerConstant.{IntegerConstant}

-- a `u` or `U` stands at the end
abbrev pub has_suffix : List ℕ → Bool
has_suffix text = slice_index text (length text - 1) == 117 || slice_index text (length text - 1) == 85

abbrev pub without_suffix : List ℕ → List ℕ
without_suffix text = if has_suffix text then take (length text - 1) text else text

-- the text begins with `0x` or `0X`
abbrev pub is_hexadecimal : List ℕ → Bool
is_hexadecimal body = slice_index body 0 == 48 && (slice_index body 1 == 120 || slice_index body 1 == 88)

abbrev pub digits_of : List ℕ → List ℕ
digits_of body = if is_hexadecimal body then drop 2 body else body

-- a leading 0 makes an octal constant
abbrev pub radix_of : List ℕ → ℕ
radix_of body = if is_hexadecimal body then 16 else (if slice_index body 0 == 48 then 8 else 10)

-- the value of a digit, and 16 for any other byte
abbrev pub digit_value : ℕ → ℕ
digit_value byte =
    if is_between 48 57 byte then byte - 48
    else (if is_between 97 102 byte then byte - 87 else (if is_between 65 70 byte then byte - 55 else 16))

abbrev pub is_digit_of : ℕ → ℕ → Bool
is_digit_of base byte = nat_lt (digit_value byte) base

-- the number that digits stand for
abbrev pub digits_number : ℕ → List ℕ → ℕ
digits_number base digits = fold (λ value digit. value * base + digit_value digit) 0 digits

-- at least one digit, all digits of the base, and a number that isn't too great
unfoldable pub is_number_within : ℕ → ℕ → List ℕ → Bool
is_number_within base greatest digits =
    not (is_empty digits) && list_all (λ digit. is_digit_of base digit) digits &&
    nat_le (digits_number base digits) greatest

-- the greatest number with this base: without a suffix a decimal constant has the type `int`
abbrev pub greatest_of : Bool → ℕ → ℕ
greatest_of suffix base = if suffix || not (base == 10) then 4294967295 else 2147483647

unfoldable pub is_integer_constant : List ℕ → Bool
is_integer_constant text =
    let body = without_suffix text in
    is_number_within (radix_of body) (greatest_of (has_suffix text) (radix_of body)) (digits_of body)

-- the number that the digits of a constant stand for
abbrev pub value_of : List ℕ → ℕ
value_of text = let body = without_suffix text in digits_number (radix_of body) (digits_of body)

-- a constant with a suffix is `unsigned int`, and so is one whose value no `int` has
abbrev pub is_unsigned_constant : List ℕ → Bool
is_unsigned_constant text = has_suffix text || nat_lt 2147483647 (value_of text)

-- what a constant says
unfoldable pub integer_of : List ℕ → Option IntegerConstant
integer_of text = if is_integer_constant text then Some (record {
  value = value_of text;
  unsigned = is_unsigned_constant
      text;
}) else None
