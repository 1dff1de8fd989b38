-- Words and the numbers that they stand for.
use Rattle.sc_word.proofs.Common.{ap, arith, cast_unsigned, int_wrap, negsuc, of_z-to_z, pos, refl, signed_of, sym, w32}
use Rattle.sc_word.proofs.Common.{word_of, wrapping_add-bits, wrapping_mul-bits, wrapping_sub-bits, ℕ, ℤ, ◌%◌, ◌*ℤ◌}
use Rattle.sc_word.proofs.Common.{◌*◌, ◌+ℤ◌, ◌+◌, ◌-ℤ◌, ◌-◌, ◌<◌, ◌^◌, ◌∙◌, ◌≡◌}

pub word_of-lt : (z : ℤ) → word_of z < 2 ^ 32
word_of-lt (pos n) = omega arith
word_of-lt (negsuc n) = omega arith

pub signed_of-word_of : (z : ℤ) → signed_of (word_of z) ≡ int_wrap w32 z
unfolding int_wrap
signed_of-word_of (pos n) = refl
signed_of-word_of (negsuc n) = refl

-- two words that stand for one number are one word
pub same_word : (a b : ℕ) → a < 2 ^ 32 → b < 2 ^ 32 → signed_of a ≡ signed_of b → a ≡ b
same_word a b p q e = sym (of_z-to_z w32 a p) ∙ ap (cast_unsigned w32) e ∙ of_z-to_z w32 b q

-- to read words as signed or as unsigned gives one sum, one difference and one product modulo 2 ^ 32
pub word_of-add : (a b : ℕ) → a < 2 ^ 32 → b < 2 ^ 32 → (a + b) % 2 ^ 32 ≡ word_of (signed_of a +ℤ signed_of b)
word_of-add a b p q = same_word ((a + b) % 2 ^ 32) (word_of (signed_of a +ℤ signed_of b)) (omega arith)
    (word_of-lt (signed_of a +ℤ signed_of b))
    (wrapping_add-bits w32 a b p q ∙ sym (signed_of-word_of (signed_of a +ℤ signed_of b)))

pub word_of-mul : (a b : ℕ) → a < 2 ^ 32 → b < 2 ^ 32 → (a * b) % 2 ^ 32 ≡ word_of (signed_of a *ℤ signed_of b)
word_of-mul a b p q = same_word ((a * b) % 2 ^ 32) (word_of (signed_of a *ℤ signed_of b)) (omega arith)
    (word_of-lt (signed_of a *ℤ signed_of b))
    (wrapping_mul-bits w32 a b p q ∙ sym (signed_of-word_of (signed_of a *ℤ signed_of b)))

pub word_of-unsigned_sub : (a b : ℕ) → a < 2 ^ 32 → b < 2 ^ 32 → word_of (pos a -ℤ pos b) ≡ (a + (2 ^ 32 - b)) % 2 ^ 32
word_of-unsigned_sub a b p q = grind arith

pub word_of-sub : (a b : ℕ) → a < 2 ^ 32 → b < 2 ^ 32 → word_of (pos a -ℤ pos b) ≡ word_of (signed_of a -ℤ signed_of b)
word_of-sub a b p q = word_of-unsigned_sub a b p q ∙ same_word ((a + (2 ^ 32 - b)) % 2 ^ 32)
    (word_of (signed_of a -ℤ signed_of b)) (omega arith) (word_of-lt (signed_of a -ℤ signed_of b))
    (wrapping_sub-bits w32 a b p q ∙ sym (signed_of-word_of (signed_of a -ℤ signed_of b)))
