-- What C's operators compute on `int` and `unsigned int` of 32 bits, and the fault where they compute nothing (C11
-- 6.5.5 to 6.5.8, 6.5.3.3).
-- Signed arithmetic is that of the whole numbers, as far as the result fits. Unsigned arithmetic is modulo 2 ^ 32.
use Rattle.std.specs.Prelude.{ℕ, ℤ, pos, ◌+ℤ◌, ◌-ℤ◌, ◌*ℤ◌, neg_ℤ, ◌*◌, ◌/◌, ◌%◌, ◌^◌, Result, Ok, Err, if◌then◌else◌}
use Rattle.std.specs.Prelude.{◌==◌, nat_le, int_lt, int_div, int_rem}
use Rattle.std.specs.Int.{int_shr}
use Rattle.sc_word.specs.declared.fault.WordFault.{WordFault}
use Rattle.sc_word.specs.declared.fault.WordFault.TheVariants.{Overflow, ZeroDivisor, BadShift}
use Rattle.sc_word.specs.Word.{signed_of, word_of, fits_signed}

-- the word of z, if z fits
abbrev pub checked : ℤ → Result ℕ WordFault
checked z = if fits_signed z then Ok (word_of z) else Err Overflow

-- a + b, a - b, a * b and -a (C11 6.5p5: a result that doesn't fit is undefined)
abbrev pub add_signed : ℕ → ℕ → Result ℕ WordFault
add_signed a b = checked (signed_of a +ℤ signed_of b)

abbrev pub sub_signed : ℕ → ℕ → Result ℕ WordFault
sub_signed a b = checked (signed_of a -ℤ signed_of b)

abbrev pub mul_signed : ℕ → ℕ → Result ℕ WordFault
mul_signed a b = checked (signed_of a *ℤ signed_of b)

abbrev pub neg_signed : ℕ → Result ℕ WordFault
neg_signed a = checked (neg_ℤ (signed_of a))

-- a / b: the quotient is rounded toward zero (C11 6.5.5p5, p6)
abbrev pub div_signed : ℕ → ℕ → Result ℕ WordFault
div_signed a b = if b == 0 then Err ZeroDivisor else checked (int_div (signed_of a) (signed_of b))

-- a % b, with the sign of a: it is defined where a / b is (C11 6.5.5p6)
abbrev pub rem_signed : ℕ → ℕ → Result ℕ WordFault
rem_signed a b =
    if b == 0 then Err ZeroDivisor else (if fits_signed (int_div (signed_of a) (signed_of b)) then
    Ok (word_of (int_rem (signed_of a) (signed_of b))) else Err Overflow)

-- a << b: a times 2 ^ b, for an a that isn't negative (C11 6.5.7p3, p4). The count is looked at first
abbrev pub shl_signed : ℕ → ℕ → Result ℕ WordFault
shl_signed a b =
    if nat_le 32 b then Err BadShift else (if int_lt (signed_of a) (pos 0) then Err Overflow else
    checked (signed_of a *ℤ pos (2 ^ b)))

-- a >> b: a over 2 ^ b, rounded down, also for a negative a (C11 6.5.7p5 leaves that to the implementation)
abbrev pub shr_signed : ℕ → ℕ → Result ℕ WordFault
shr_signed a b = if nat_le 32 b then Err BadShift else Ok (word_of (int_shr (signed_of a) b))

-- a / b, a % b, a << b and a >> b on unsigned words, where a shift left is modulo 2 ^ 32 (C11 6.2.5p9, 6.5.5p5, 6.5.7)
abbrev pub div_unsigned : ℕ → ℕ → Result ℕ WordFault
div_unsigned a b = if b == 0 then Err ZeroDivisor else Ok (a / b)

abbrev pub rem_unsigned : ℕ → ℕ → Result ℕ WordFault
rem_unsigned a b = if b == 0 then Err ZeroDivisor else Ok (a % b)

abbrev pub shl_unsigned : ℕ → ℕ → Result ℕ WordFault
shl_unsigned a b = if nat_le 32 b then Err BadShift else Ok ((a * 2 ^ b) % 2 ^ 32)

abbrev pub shr_unsigned : ℕ → ℕ → Result ℕ WordFault
shr_unsigned a b = if nat_le 32 b then Err BadShift else Ok (a / 2 ^ b)
