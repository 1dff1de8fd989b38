-- The machine computes what C computes: where a C operator answers a word, the instruction that is emitted for it
-- answers the same one.
use Rattle.std.specs.Prelude.{ℕ, ◌≡◌, ◌^◌, ◌<◌, Result, Ok}
use Rattle.sc_word.specs.declared.fault.WordFault.{WordFault}
use Rattle.sc_word.specs.CArithmetic.{add_signed, sub_signed, mul_signed, neg_signed, div_signed, rem_signed}
use Rattle.sc_word.specs.CArithmetic.{shl_signed, shr_signed, div_unsigned, rem_unsigned, shl_unsigned, shr_unsigned}
use Rattle.sc_word.specs.Machine.{add_word, sub_word, sll_word, srl_word, sra_word, mul_word, div_word, divu_word}
use Rattle.sc_word.specs.Machine.{rem_word, remu_word}

-- on all words a and b, the instruction answers each word that the operator answers
abbrev pub Agrees : (ℕ → ℕ → Result ℕ WordFault) → (ℕ → ℕ → ℕ) → Type 0
Agrees operator instruction = (a b v : ℕ) → a < 2 ^ 32 → b < 2 ^ 32 → operator a b ≡ Ok v → instruction a b ≡ v

pub record MachineComputesC : Type 0 where
  pub add_signed_by_add : Agrees add_signed add_word
  pub sub_signed_by_sub : Agrees sub_signed sub_word
  pub mul_signed_by_mul : Agrees mul_signed mul_word
  pub div_signed_by_div : Agrees div_signed div_word
  pub rem_signed_by_rem : Agrees rem_signed rem_word
  pub shl_signed_by_sll : Agrees shl_signed sll_word
  pub shr_signed_by_sra : Agrees shr_signed sra_word
  pub div_unsigned_by_divu : Agrees div_unsigned divu_word
  pub rem_unsigned_by_remu : Agrees rem_unsigned remu_word
  pub shl_unsigned_by_sll : Agrees shl_unsigned sll_word
  pub shr_unsigned_by_srl : Agrees shr_unsigned srl_word
  pub neg_signed_by_sub : (a v : ℕ) → a < 2 ^ 32 → neg_signed a ≡ Ok v → sub_word 0 a ≡ v
