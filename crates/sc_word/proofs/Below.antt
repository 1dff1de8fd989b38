-- Each instruction computes a word from words.
use Rattle.sc_word.proofs.Common.{Bool, add_word, arith, div-le_self, div_word, divu_word, false, if◌then◌else◌}
use Rattle.sc_word.proofs.Common.{int_div, int_lt, int_rem, int_shr, mod-le, mul_word, mulh_word, mulhsu_word}
use Rattle.sc_word.proofs.Common.{mulhu_word, nat_lt, pos, rem_word, remu_word, signed_of, sll_word, slt_word}
use Rattle.sc_word.proofs.Common.{sltu_word, sra_word, srl_word, sub_word, true, word_of, ℕ, ◌%◌, ◌*ℤ◌, ◌*◌, ◌-ℤ◌, ◌-◌}
use Rattle.sc_word.proofs.Common.{◌/◌, ◌<◌, ◌==◌, ◌^◌}
use Rattle.std.proofs.lemmas.Nat.{mul-lt}
use Rattle.sc_word.proofs.Words.{word_of-lt}

either : (b : Bool) (x y : ℕ) → x < 2 ^ 32 → y < 2 ^ 32 → (if b then x else y) < 2 ^ 32
either true x y h k = h
either false x y h k = k

bit : (b : Bool) → (if b then 1 else 0) < 2 ^ 32
bit b = either b 1 0 (omega arith) (omega arith)

pub add_word-lt : (a b : ℕ) → add_word a b < 2 ^ 32
add_word-lt a b = omega arith

pub sub_word-lt : (a b : ℕ) → sub_word a b < 2 ^ 32
sub_word-lt a b = word_of-lt (pos a -ℤ pos b)

modulo : (n : ℕ) → n % 2 ^ 32 < 2 ^ 32
modulo n = omega arith

pub sll_word-lt : (a b : ℕ) → sll_word a b < 2 ^ 32
sll_word-lt a b = modulo (a * 2 ^ (b % 32))

pub srl_word-lt : (a b : ℕ) → a < 2 ^ 32 → srl_word a b < 2 ^ 32
srl_word-lt a b h = omega (arith, div-le_self a (2 ^ (b % 32)))

pub sra_word-lt : (a b : ℕ) → sra_word a b < 2 ^ 32
sra_word-lt a b = word_of-lt (int_shr (signed_of a) (b % 32))

pub slt_word-lt : (a b : ℕ) → slt_word a b < 2 ^ 32
slt_word-lt a b = bit (int_lt (signed_of a) (signed_of b))

pub sltu_word-lt : (a b : ℕ) → sltu_word a b < 2 ^ 32
sltu_word-lt a b = bit (nat_lt a b)

pub mul_word-lt : (a b : ℕ) → mul_word a b < 2 ^ 32
mul_word-lt a b = modulo (a * b)

pub mulh_word-lt : (a b : ℕ) → mulh_word a b < 2 ^ 32
mulh_word-lt a b = word_of-lt (int_shr (signed_of a *ℤ signed_of b) 32)

pub mulhsu_word-lt : (a b : ℕ) → mulhsu_word a b < 2 ^ 32
mulhsu_word-lt a b = word_of-lt (int_shr (signed_of a *ℤ pos b) 32)

high : (n : ℕ) → n < 2 ^ 32 * 2 ^ 32 → n / 2 ^ 32 < 2 ^ 32
high n h = omega (arith, h)

pub mulhu_word-lt : (a b : ℕ) → a < 2 ^ 32 → b < 2 ^ 32 → mulhu_word a b < 2 ^ 32
mulhu_word-lt a b h k = high (a * b) (mul-lt a b (2 ^ 32) (2 ^ 32) h k)

pub div_word-lt : (a b : ℕ) → div_word a b < 2 ^ 32
div_word-lt a b = either (b == 0) (2 ^ 32 - 1) (word_of (int_div (signed_of a) (signed_of b))) (omega arith)
    (word_of-lt (int_div (signed_of a) (signed_of b)))

pub divu_word-lt : (a b : ℕ) → a < 2 ^ 32 → divu_word a b < 2 ^ 32
divu_word-lt a b h = either (b == 0) (2 ^ 32 - 1) (a / b) (omega arith) (omega (arith, h, div-le_self a b))

pub rem_word-lt : (a b : ℕ) → a < 2 ^ 32 → rem_word a b < 2 ^ 32
rem_word-lt a b h = either (b == 0) a (word_of (int_rem (signed_of a) (signed_of b))) h
    (word_of-lt (int_rem (signed_of a) (signed_of b)))

pub remu_word-lt : (a b : ℕ) → a < 2 ^ 32 → remu_word a b < 2 ^ 32
remu_word-lt a b h = either (b == 0) a (a % b) h (omega (arith, h, mod-le a b))
