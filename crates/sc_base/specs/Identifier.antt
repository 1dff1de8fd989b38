-- Identifiers (C11 6.4.2.1).
use Rattle.sc_base.specs.Limits.{most_name_bytes}
use Rattle.std.specs.Prelude.{ℕ, Bool, false, ◌&&◌, ◌||◌, ◌==◌, nat_le, nat_lt, List, [], ◌∷◌, length, Option, Some}
use Rattle.std.specs.Prelude.{None, if◌then◌else◌, codes}
use Rattle.std.specs.List.{list_all}

-- a byte of the range, both ends included
abbrev pub is_between : (low high : ℕ) → ℕ → Bool
is_between low high byte = nat_le low byte && nat_le byte high

-- `0` to `9`
abbrev pub is_digit : ℕ → Bool
is_digit byte = is_between 48 57 byte

-- `_`, `A` to `Z` or `a` to `z`
abbrev pub is_nondigit : ℕ → Bool
is_nondigit byte = byte == 95 || (is_between 65 90 byte || is_between 97 122 byte)

-- what an identifier is made of
abbrev pub is_name_byte : ℕ → Bool
is_name_byte byte = is_nondigit byte || is_digit byte

-- a nondigit, and nondigits and digits after it, not too many for a name
unfoldable pub is_name : List ℕ → Bool
is_name [] = false
is_name (first ∷ rest) = is_nondigit first && (list_all is_name_byte rest && nat_lt (length rest) most_name_bytes)

-- the function in which a run starts (C11 5.1.2.2.1)
abbrev pub main_name : List ℕ
main_name = codes "main"

-- the text as a name, if it is one
abbrev pub name_of : List ℕ → Option (List ℕ)
name_of text = if is_name text then Some text else None
