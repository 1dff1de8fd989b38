-- Words of 32 bits, and how one is printed.
use Rattle.std.specs.Prelude.{ℕ, ◌<◌, ◌^◌, List, Option, None, Some}
use Rattle.std.specs.Int.{w32, cast_signed}
use Rattle.std.specs.Fmt.{signed_decimal}

abbrev pub IsWord : ℕ → Type 0
IsWord word = word < 2 ^ 32

abbrev pub IsWordOrNone : Option ℕ → Type 0
IsWordOrNone None = Unit {0}
IsWordOrNone (Some word) = IsWord word

-- the decimal of its signed value, with a `-` before it where that is negative
abbrev pub signed_text : ℕ → List ℕ
signed_text word = signed_decimal (cast_signed w32 word)
