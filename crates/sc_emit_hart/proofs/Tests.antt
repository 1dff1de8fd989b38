-- Tests of words, as instructions compute them.
use Rattle.sc_emit_hart.proofs.Common.{and_le_l, and_le_r, and_mask, ap, arith, bit_and, bit_or, bit_xor, le_or_l}
use Rattle.sc_emit_hart.proofs.Common.{le_or_r, not, sltu_word, sym, tests_are_words, truth, ℕ, ◌%◌, ◌&&◌, ◌*◌, ◌+◌}
use Rattle.sc_emit_hart.proofs.Common.{◌-◌, ◌<◌, ◌==◌, ◌^◌, ◌||◌, ◌∙◌, ◌≡◌, ◌≤◌}
use Rattle.std.specs.Int.Bits.{or_add_and, xor_add_and, xor_self}

pub zero_test : (a : ℕ) → sltu_word a 1 ≡ truth (a == 0)
zero_test a = grind arith

pub not_zero_test : (a : ℕ) → sltu_word 0 a ≡ truth (not (a == 0))
not_zero_test a = grind arith

same_by_xor : (a b : ℕ) → bit_xor a b ≡ 0 → a ≡ b
same_by_xor a b h =
    let sum : bit_xor a b + bit_and a b * 2 ≡ a + b = xor_add_and a b in
    let first : bit_and a b ≤ a = and_le_l a b in
    let second : bit_and a b ≤ b = and_le_r a b in
    omega arith

none_by_xor : (a b : ℕ) → a ≡ b → bit_xor a b ≡ 0
none_by_xor a b h = ap (bit_xor a) (sym h) ∙ xor_self a

xor_zero : (a b : ℕ) → (bit_xor a b == 0) ≡ (a == b)
xor_zero a b = grind (arith, same_by_xor a b, none_by_xor a b)

pub equal_test : (a b : ℕ) → sltu_word (bit_xor a b) 1 ≡ truth (a == b)
equal_test a b = zero_test (bit_xor a b) ∙ ap truth (xor_zero a b)

pub unequal_test : (a b : ℕ) → sltu_word 0 (bit_xor a b) ≡ truth (not (a == b))
unequal_test a b = not_zero_test (bit_xor a b) ∙ ap (λ t. truth (not t)) (xor_zero a b)

either_zero : (a b c : ℕ) → a ≤ c → b ≤ c → c ≤ a + b → not (c == 0) ≡ (not (a == 0) || not (b == 0))
either_zero a b c h k l = grind arith

or_le : (a b : ℕ) → bit_or a b ≤ a + b
or_le a b = let sum : bit_or a b + bit_and a b ≡ a + b = or_add_and a b in omega arith

pub either_test : (a b : ℕ) → sltu_word 0 (bit_or a b) ≡ truth (not (a == 0) || not (b == 0))
either_test a b =
    not_zero_test (bit_or a b) ∙ ap truth (either_zero a b (bit_or a b) (le_or_l a b) (le_or_r a b) (or_le a b))

pub both_test : (a b : ℕ) → a < 2 ^ 32 → b < 2 ^ 32 →
    bit_and (sltu_word 0 a) (sltu_word 0 b) ≡ truth (not (a == 0) && not (b == 0))
both_test a b h k = sym (tests_are_words.both a b h k)

pub complement : (a : ℕ) → a < 2 ^ 32 → bit_xor a (2 ^ 32 - 1) ≡ 2 ^ 32 - 1 - a
complement a h =
    let sum : bit_xor a (2 ^ 32 - 1) + bit_and a (2 ^ 32 - 1) * 2 ≡ a + (2 ^ 32 - 1) = xor_add_and a (2 ^ 32 - 1) in
    let low : bit_and a (2 ^ 32 - 1) ≡ a % 2 ^ 32 = and_mask a 32 in
    omega (arith, sum, low)
