-- Operators that answer on all words, results taken modulo 2 ^ 32 and shift counts modulo 32: each is one instruction,
-- or a few. Those that are an instruction's own definition (unsigned sums, quotients, shifts to the right) are left
-- out.
use Rattle.std.specs.Prelude.{ℕ, pos, ◌≡◌, ◌+ℤ◌, ◌-ℤ◌, ◌*ℤ◌, neg_ℤ, ◌%◌, ◌^◌, ◌<◌, Bool, not, ◌&&◌, ◌||◌, ◌==◌, int_lt}
use Rattle.std.specs.Prelude.{nat_lt, if◌then◌else◌, bit_and, bit_or, bit_xor}
use Rattle.sc_word.specs.Word.{signed_of, word_of}
use Rattle.sc_word.specs.Machine.{add_word, sub_word, mul_word, sll_word, slt_word, sltu_word}

-- an operator gives, on all words, what an instruction or a few give
abbrev pub IsOnWords : (operator instructions : ℕ → ℕ → ℕ) → Type 0
IsOnWords operator instructions = (a b : ℕ) → a < 2 ^ 32 → b < 2 ^ 32 → operator a b ≡ instructions a b

-- 1 where the test holds, else 0
abbrev pub bit : Bool → ℕ
bit test = if test then 1 else 0

-- signed arithmetic, whose results wrap
pub record SignedWraps : Type 0 where
  pub sum : IsOnWords (λ a b. word_of (signed_of a +ℤ signed_of b)) add_word
  pub difference : IsOnWords (λ a b. word_of (signed_of a -ℤ signed_of b)) sub_word
  pub product : IsOnWords (λ a b. word_of (signed_of a *ℤ signed_of b)) mul_word
  pub left_shift : IsOnWords (λ a b. word_of (signed_of a *ℤ pos (2 ^ (b % 32)))) sll_word
  pub negation : (a : ℕ) → a < 2 ^ 32 → word_of (neg_ℤ (signed_of a)) ≡ sub_word 0 a

-- comparisons, and the two that look at whether their operands are 0
pub record TestsAreWords : Type 0 where
  pub equal : IsOnWords (λ a b. bit (a == b)) (λ a b. sltu_word (sub_word a b) 1)
  pub not_equal : IsOnWords (λ a b. bit (not (a == b))) (λ a b. sltu_word 0 (sub_word a b))
  pub signed_less : IsOnWords (λ a b. bit (int_lt (signed_of a) (signed_of b))) slt_word
  pub unsigned_less : IsOnWords (λ a b. bit (nat_lt a b)) sltu_word
  pub signed_not_less : IsOnWords (λ a b. bit (not (int_lt (signed_of a) (signed_of b))))
      (λ a b. bit_xor (slt_word a b) 1)
  pub unsigned_not_less : IsOnWords (λ a b. bit (not (nat_lt a b))) (λ a b. bit_xor (sltu_word a b) 1)
  pub either : IsOnWords (λ a b. bit (not (a == 0) || not (b == 0))) (λ a b. bit_or (sltu_word 0 a) (sltu_word 0 b))
  pub both : IsOnWords (λ a b. bit (not (a == 0) && not (b == 0))) (λ a b. bit_and (sltu_word 0 a) (sltu_word 0 b))

pub record OperatorsAreInstructions : Type 0 where
  pub arithmetic : SignedWraps
  pub tests : TestsAreWords
