-- A word of 32 bits, held as a number below 2 ^ 32, and the whole number that it stands for.
use Rattle.std.specs.Prelude.{ℕ, ℤ, pos, negsuc, ◌-◌, ◌%◌, ◌^◌, Bool, ◌&&◌, int_le}
use Rattle.std.specs.Int.{w32, cast_signed}

-- what a word stands for as a signed number, in two's complement: itself below 2 ^ 31, and 2 ^ 32 less from there on
abbrev pub signed_of : ℕ → ℤ
signed_of a = cast_signed w32 a

-- the word of a whole number: what is left of it modulo 2 ^ 32. `negsuc n` is -(n + 1)
abbrev pub word_of : ℤ → ℕ
word_of (pos n) = n % 2 ^ 32
word_of (negsuc n) = 2 ^ 32 - 1 - n % 2 ^ 32

-- z lies from -2 ^ 31 to 2 ^ 31 - 1
abbrev pub fits_signed : ℤ → Bool
fits_signed z = int_le (negsuc (2 ^ 31 - 1)) z && int_le z (pos (2 ^ 31 - 1))
