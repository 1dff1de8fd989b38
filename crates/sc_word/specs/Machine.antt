-- What the instructions of RV32I and M compute from two registers: the word that ADD gives is `add_word`, and so on.
-- RISC-V Unprivileged ISA, chapters "RV32I Base Integer Instruction Set" and "M Extension for Integer Multiplication
-- and Division".
use Rattle.std.specs.Prelude.{ℕ, pos, ◌-ℤ◌, ◌*ℤ◌, ◌+◌, ◌-◌, ◌*◌, ◌/◌, ◌%◌, ◌^◌, if◌then◌else◌, ◌==◌, nat_lt, int_lt}
use Rattle.std.specs.Prelude.{int_div, int_rem}
use Rattle.std.specs.Int.{int_shr}
use Rattle.sc_word.specs.Word.{signed_of, word_of}

-- sums and differences wrap
abbrev pub add_word : ℕ → ℕ → ℕ
add_word a b = (a + b) % 2 ^ 32

abbrev pub sub_word : ℕ → ℕ → ℕ
sub_word a b = word_of (pos a -ℤ pos b)

-- shifts by the low five bits of b: left, right with zeros, right with copies of the sign
abbrev pub sll_word : ℕ → ℕ → ℕ
sll_word a b = (a * 2 ^ (b % 32)) % 2 ^ 32

abbrev pub srl_word : ℕ → ℕ → ℕ
srl_word a b = a / 2 ^ (b % 32)

abbrev pub sra_word : ℕ → ℕ → ℕ
sra_word a b = word_of (int_shr (signed_of a) (b % 32))

-- 1 where a is below b, else 0
abbrev pub slt_word : ℕ → ℕ → ℕ
slt_word a b = if int_lt (signed_of a) (signed_of b) then 1 else 0

abbrev pub sltu_word : ℕ → ℕ → ℕ
sltu_word a b = if nat_lt a b then 1 else 0

-- the low half of the product, which is the same for signed and unsigned operands
abbrev pub mul_word : ℕ → ℕ → ℕ
mul_word a b = (a * b) % 2 ^ 32

-- the high half of the product: of signed by signed, signed by unsigned, unsigned by unsigned
abbrev pub mulh_word : ℕ → ℕ → ℕ
mulh_word a b = word_of (int_shr (signed_of a *ℤ signed_of b) 32)

abbrev pub mulhsu_word : ℕ → ℕ → ℕ
mulhsu_word a b = word_of (int_shr (signed_of a *ℤ pos b) 32)

abbrev pub mulhu_word : ℕ → ℕ → ℕ
mulhu_word a b = a * b / 2 ^ 32

-- quotients, rounded toward zero: all ones by 0, and -2 ^ 31 by -1 wraps to itself
abbrev pub div_word : ℕ → ℕ → ℕ
div_word a b = if b == 0 then 2 ^ 32 - 1 else word_of (int_div (signed_of a) (signed_of b))

abbrev pub divu_word : ℕ → ℕ → ℕ
divu_word a b = if b == 0 then 2 ^ 32 - 1 else a / b

-- remainders, with the sign of the dividend: the dividend by 0
abbrev pub rem_word : ℕ → ℕ → ℕ
rem_word a b = if b == 0 then a else word_of (int_rem (signed_of a) (signed_of b))

abbrev pub remu_word : ℕ → ℕ → ℕ
remu_word a b = if b == 0 then a else a % b
