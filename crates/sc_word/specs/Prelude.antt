-- What this crate's contracts, its proofs and the crates above cite, passed on from one place. Declares nothing.
pub use Rattle.sc_word.specs.Agreement.{Agrees, MachineComputesC}
pub use Rattle.sc_word.specs.CArithmetic.{add_signed, checked, div_signed, div_unsigned, mul_signed, neg_signed}
pub use Rattle.sc_word.specs.CArithmetic.{rem_signed, rem_unsigned, shl_signed, shl_unsigned, shr_signed, shr_unsigned}
pub use Rattle.sc_word.specs.CArithmetic.{sub_signed}
pub use Rattle.sc_word.specs.Machine.{add_word, div_word, divu_word, mul_word, mulh_word, mulhsu_word, mulhu_word}
pub use Rattle.sc_word.specs.Machine.{rem_word, remu_word, sll_word, slt_word, sltu_word, sra_word, srl_word, sub_word}
pub use Rattle.sc_word.specs.OnAllWords.{IsOnWords, OperatorsAreInstructions, SignedWraps, TestsAreWords, bit}
pub use Rattle.sc_word.specs.Word.{fits_signed, signed_of, word_of}
