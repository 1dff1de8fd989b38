-- Numbers as texts.
use Rattle.std.specs.Prelude.{ℕ, ℤ, pos, neg_ℤ, ◌==◌, ◌&&◌, nat_lt, nat_le, if◌then◌else◌, List, [], ◌∷◌, length}
use Rattle.std.specs.Prelude.{Option, Some, None, option_and_then, option_map}
use Rattle.std.specs.Str.{all_ascii_digits}
use Rattle.std.specs.Str.Parse.{digits_value}

-- one decimal digit or more, with any number of leading zeros, and no sign
abbrev pub number : List ℕ → Option ℕ
number text = if nat_lt 0 (length text) && all_ascii_digits text then Some (digits_value 10 text) else None

abbrev pub when_within : (low high : ℕ) → ℕ → Option ℕ
when_within low high n = if nat_le low n && nat_le n high then Some n else None

-- a number from `low` to `high`
abbrev pub number_within : (low high : ℕ) → List ℕ → Option ℕ
number_within low high text = option_and_then (when_within low high) (number text)

-- a number, with or without a `-` before it, from -2147483648 to 2147483647
abbrev pub integer : List ℕ → Option ℤ
integer [] = None
integer (byte ∷ rest) =
    if byte == 45 then option_map (λ n. neg_ℤ (pos n)) (number_within 0 2147483648 rest)
    else option_map pos (number_within 0 2147483647 (byte ∷ rest))
