-- The names that several proofs of this crate cite, passed on from one place. Declares nothing.
pub use Rattle.std.proofs.Common.{Bool, Ok, ap, arith, bit_and, bit_or, bit_xor, false, if◌then◌else◌, int_div, int_lt}
pub use Rattle.std.proofs.Common.{int_rem, nat_lt, neg_ℤ, negsuc, not, pos, refl, suc, sym, true, zero, ℕ, ℤ, ◌%◌, ◌&&◌}
pub use Rattle.std.proofs.Common.{◌*ℤ◌, ◌*◌, ◌+ℤ◌, ◌+◌, ◌-ℤ◌, ◌-◌, ◌/◌, ◌<◌, ◌==◌, ◌^◌, ◌||◌, ◌∙◌, ◌≡◌, ◌≤◌}
pub use Rattle.std.proofs.Math.Nat.{add-mul, div-le_self, mod-le, mul_comm}
pub use Rattle.std.proofs.lemmas.Int.{ints, of_z-to_z, wrapping_add-bits, wrapping_mul-bits, wrapping_sub-bits}
pub use Rattle.std.specs.Int.{cast_unsigned, int_shr, w32}
unfoldable pub use Rattle.std.specs.Int.{int_wrap}
pub use Rattle.sc_word.specs.Prelude.{Agrees, IsOnWords, OperatorsAreInstructions, SignedWraps, TestsAreWords}
pub use Rattle.sc_word.specs.Prelude.{add_signed, add_word, bit, checked, div_signed, div_unsigned, div_word, divu_word}
pub use Rattle.sc_word.specs.Prelude.{mul_signed, mul_word, mulh_word, mulhsu_word, mulhu_word, neg_signed, rem_signed}
pub use Rattle.sc_word.specs.Prelude.{rem_unsigned, rem_word, remu_word, shl_signed, shl_unsigned, shr_signed}
pub use Rattle.sc_word.specs.Prelude.{shr_unsigned, signed_of, sll_word, slt_word, sltu_word, sra_word, srl_word}
pub use Rattle.sc_word.specs.Prelude.{sub_signed, sub_word, word_of}
