-- Each operator that answers on all words is its instructions, and each instruction computes what its operator does.
use Rattle.sc_word.proofs.Common.{Agrees, Bool, IsOnWords, Ok, OperatorsAreInstructions, SignedWraps, TestsAreWords}
use Rattle.sc_word.proofs.Common.{add-mul, add_signed, add_word, ap, arith, bit, bit_and, bit_or, bit_xor, checked}
use Rattle.sc_word.proofs.Common.{div_signed, div_unsigned, div_word, divu_word, false, int_lt, ints, mul_comm}
use Rattle.sc_word.proofs.Common.{mul_signed, mul_word, nat_lt, neg_signed, neg_ℤ, not, pos, refl, rem_signed}
use Rattle.sc_word.proofs.Common.{rem_unsigned, rem_word, remu_word, shl_signed, shl_unsigned, shr_signed, shr_unsigned}
use Rattle.sc_word.proofs.Common.{signed_of, sll_word, sltu_word, sra_word, srl_word, sub_signed, sub_word, suc, sym}
use Rattle.sc_word.proofs.Common.{true, word_of, zero, ℕ, ℤ, ◌%◌, ◌&&◌, ◌*ℤ◌, ◌*◌, ◌+ℤ◌, ◌+◌, ◌-ℤ◌, ◌-◌, ◌<◌, ◌==◌, ◌^◌}
use Rattle.sc_word.proofs.Common.{◌||◌, ◌∙◌, ◌≡◌, ◌≤◌}
use Rattle.sc_word.proofs.Words.{word_of-add, word_of-sub, word_of-mul}

zero_left : (z : ℤ) → pos 0 +ℤ z ≡ z
zero_left z = omega (arith, ints)

neg-times : (m k : ℕ) → neg_ℤ (pos m) *ℤ pos k ≡ neg_ℤ (pos (m * k))
neg-times zero k = let none : 0 * k ≡ 0 = omega arith in rw none refl
neg-times (suc n) k = refl

negation : (a : ℕ) → a < 2 ^ 32 → word_of (neg_ℤ (signed_of a)) ≡ sub_word 0 a
negation a p = ap word_of (sym (zero_left (neg_ℤ (signed_of a)))) ∙ sym (word_of-sub 0 a (omega arith) p)

-- the word of -m, where m is not above some multiple of 2 ^ 32
word_of_minus : (m k : ℕ) → m ≤ k * 2 ^ 32 → word_of (neg_ℤ (pos m)) ≡ (k * 2 ^ 32 - m) % 2 ^ 32
word_of_minus zero k h = omega arith
word_of_minus (suc n) k h = omega (arith, h)

-- a times k, a read as signed
times_by : (a k : ℕ) → a < 2 ^ 32 → (below : Bool) → nat_lt a (2 ^ 31) ≡ below →
    word_of (signed_of a *ℤ pos k) ≡ (a * k) % 2 ^ 32
times_by a k p true is = let same : signed_of a ≡ pos a = grind arith in rw same refl
times_by a k p false is =
    let same : signed_of a ≡ neg_ℤ (pos (2 ^ 32 - a)) = grind arith in
    let whole : (2 ^ 32 - a + a) * k ≡ (2 ^ 32 - a) * k + a * k = add-mul (2 ^ 32 - a) a k in
    let full : (2 ^ 32 - a + a) * k ≡ k * 2 ^ 32 = ap (λ n. n * k)
    (let n : 2 ^ 32 - a + a ≡ 2 ^ 32 = omega (arith, p) in n) ∙ mul_comm (2 ^ 32) k in
    let rest : k * 2 ^ 32 - (2 ^ 32 - a) * k ≡ a * k = omega (arith, whole, full) in
    let bound : (2 ^ 32 - a) * k ≤ k * 2 ^ 32 = omega (arith, whole, full) in
    let product : signed_of a *ℤ pos k ≡ neg_ℤ (pos ((2 ^ 32 - a) * k)) = rw same (neg-times (2 ^ 32 - a) k) in
    ap word_of product ∙ word_of_minus ((2 ^ 32 - a) * k) k bound ∙ ap (λ n. n % 2 ^ 32) rest

times : (a k : ℕ) → a < 2 ^ 32 → word_of (signed_of a *ℤ pos k) ≡ (a * k) % 2 ^ 32
times a k p = times_by a k p (nat_lt a (2 ^ 31)) refl

pub signed_wraps : SignedWraps
signed_wraps = record {
  sum = λ a b p q. sym (word_of-add a b p q);
  difference = λ a b p q. sym (word_of-sub a b p q);
  product = λ a b p q. sym (word_of-mul a b p q);
  left_shift = λ a b p q. times a (2 ^ (b % 32)) p;
  negation = negation;
}

equal : IsOnWords (λ a b. bit (a == b)) (λ a b. sltu_word (sub_word a b) 1)
equal a b p q = grind arith

not_equal : IsOnWords (λ a b. bit (not (a == b))) (λ a b. sltu_word 0 (sub_word a b))
not_equal a b p q = grind arith

flipped : (test : Bool) → bit (not test) ≡ bit_xor (bit test) 1
flipped true = refl
flipped false = refl

either : (x y : Bool) → bit (x || y) ≡ bit_or (bit x) (bit y)
either true true = refl
either false true = refl
either _ _ = refl

both : (x y : Bool) → bit (x && y) ≡ bit_and (bit x) (bit y)
both true true = refl
both false true = refl
both _ _ = refl

not_zero : (a : ℕ) → not (a == 0) ≡ nat_lt 0 a
not_zero a = grind arith

pub tests_are_words : TestsAreWords
tests_are_words = record {
  equal = equal;
  not_equal = not_equal;
  signed_less = λ a b p q. refl;
  unsigned_less = λ a b p q. refl;
  signed_not_less = λ a b p q. flipped (int_lt (signed_of a) (signed_of b));
  unsigned_not_less = λ a b p q. flipped (nat_lt a b);
  either = λ a b p q. rw (not_zero a, not_zero b) (either (nat_lt 0 a) (nat_lt 0 b));
  both = λ a b p q. rw (not_zero a, not_zero b) (both (nat_lt 0 a) (nat_lt 0 b));
}

pub operators_are_instructions : OperatorsAreInstructions
operators_are_instructions = record { arithmetic = signed_wraps; tests = tests_are_words }

pub word_of-checked : (z : ℤ) (v : ℕ) → checked z ≡ Ok v → word_of z ≡ v
word_of-checked z v e = grind arith

pub add_agrees : Agrees add_signed add_word
add_agrees a b v p q e = word_of-add a b p q ∙ word_of-checked (signed_of a +ℤ signed_of b) v e

pub sub_agrees : Agrees sub_signed sub_word
sub_agrees a b v p q e = word_of-sub a b p q ∙ word_of-checked (signed_of a -ℤ signed_of b) v e

pub mul_agrees : Agrees mul_signed mul_word
mul_agrees a b v p q e = word_of-mul a b p q ∙ word_of-checked (signed_of a *ℤ signed_of b) v e

pub div_agrees : Agrees div_signed div_word
div_agrees a b v p q e = grind arith

pub rem_agrees : Agrees rem_signed rem_word
rem_agrees a b v p q e = grind arith

pub shl_signed_agrees : Agrees shl_signed sll_word
shl_signed_agrees a b v p q e = grind arith

pub shr_signed_agrees : Agrees shr_signed sra_word
shr_signed_agrees a b v p q e = grind arith

pub divu_agrees : Agrees div_unsigned divu_word
divu_agrees a b v p q e = grind arith

pub remu_agrees : Agrees rem_unsigned remu_word
remu_agrees a b v p q e = grind arith

pub shl_unsigned_agrees : Agrees shl_unsigned sll_word
shl_unsigned_agrees a b v p q e = grind arith

pub shr_unsigned_agrees : Agrees shr_unsigned srl_word
shr_unsigned_agrees a b v p q e = grind arith

add-zero_left : (z : ℤ) → pos 0 +ℤ z ≡ z
add-zero_left z = omega (arith, ints)

-- to negate is to subtract from 0
pub neg_agrees : (a v : ℕ) → a < 2 ^ 32 → neg_signed a ≡ Ok v → sub_word 0 a ≡ v
neg_agrees a v p e = sub_agrees 0 a v (omega arith) p (ap checked (add-zero_left (neg_ℤ (signed_of a))) ∙ e)
