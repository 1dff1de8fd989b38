-- The names that several proofs of this crate cite, passed on from one place. Declares nothing.
pub use Rattle.std.proofs.Common.{All, Bool, List, None, Option, Some, [], ap, append_assoc, ap₂, arith, bit_and}
pub use Rattle.std.proofs.Common.{bit_or, bit_xor, eq-eqb, eqb-true, false, if◌then◌else◌, inl, inr, int_div, int_lt}
pub use Rattle.std.proofs.Common.{leb-true, length, length-append, ltb-false, ltb-true, map, mul-add, nat_eq, nat_le}
pub use Rattle.std.proofs.Common.{nat_lt, ne_eqb, neg_ℤ, negsuc, not, pos, refl, slice_get, slice_index, slice_set}
pub use Rattle.std.proofs.Common.{subst, suc, sym, true, zero, ℕ, ℤ, ⊎_elim, ◌%◌, ◌&&◌, ◌*ℤ◌, ◌*◌, ◌++◌, ◌+ℤ◌, ◌+◌}
pub use Rattle.std.proofs.Common.{◌-ℤ◌, ◌-◌, ◌/◌, ◌<◌, ◌==◌, ◌^◌, ◌||◌, ◌∙◌, ◌∷◌, ◌≡◌, ◌≢◌, ◌≤◌, ◌⊎◌}
pub use Rattle.std.specs.List.{list_any}
pub use Rattle.std.proofs.lemmas.Bool.{and_parts, cases_lt, lt-leb}
pub use Rattle.std.proofs.lemmas.Nat.{and_le_l, and_le_r, and_mask, le_or_l, le_or_r, mul-mod_second, or_of_32}
pub use Rattle.std.proofs.lemmas.Nat.{xor_of_32}
pub use Rattle.sc_base.specs.declared.op.BinaryOp.{BinaryOp}
pub use Rattle.sc_base.specs.declared.op.UnaryOp.{UnaryOp}
pub use Rattle.sc_base.specs.declared.stop.TrapReason.TheVariants.{BadJump, Owner}
pub use Rattle.sc_word.proofs.OnAllWords.{signed_wraps, tests_are_words}
pub use Rattle.sc_word.proofs.Words.{word_of-lt, word_of-unsigned_sub}
pub use Rattle.sc_word.specs.Prelude.{add_word, div_word, mul_word, signed_of, slt_word, sltu_word, sub_word, word_of}
pub use Rattle.sc_core.specs.Prelude.{negated_word, number_of, on_all_words, truth}
pub use Rattle.rv_code.specs.declared.instr.Instr.TheVariants.{Branch, Jal, Jalr, Load, Op, OpImm, Shift, Store, Upper}
pub use Rattle.rv_code.specs.declared.instr.LoadOp.TheVariants.{Lw}
pub use Rattle.rv_code.specs.declared.instr.OpImmOp.{OpImmOp}
pub use Rattle.rv_code.specs.declared.instr.OpImmOp.TheVariants.{Addi, Andi, Ori, Slti, Sltiu, Xori}
pub use Rattle.rv_code.specs.declared.instr.OpOp.{OpOp}
pub use Rattle.rv_code.specs.declared.instr.OpOp.TheVariants.{Add, And, Div, Divu, Mul, Or, Rem, Remu, Sll, Slt, Sltu}
pub use Rattle.rv_code.specs.declared.instr.OpOp.TheVariants.{Sra, Srl, Sub, Xor}
pub use Rattle.rv_code.specs.declared.instr.ShiftOp.{ShiftOp}
pub use Rattle.rv_code.specs.declared.instr.StoreOp.TheVariants.{Sw}
pub use Rattle.rv_code.specs.declared.instr.UpperOp.TheVariants.{Lui}
pub use Rattle.sc_store.specs.Prelude.{ByteMemory, is_in, load_of, with_bytes}
pub use Rattle.sc_image.proofs.Running.{image_in_memory, steps_by_instruction}
pub use Rattle.sc_image.specs.Prelude.{Goes, IsAt, IsSteadyState, IsWellFormed, IsWord, Outcome, MachineState, Traps}
pub use Rattle.sc_image.specs.Prelude.{Walks}
pub use Rattle.sc_image.specs.Prelude.{after_outcome, jump_outside, code_in, code_start, compares, op_result}
pub use Rattle.sc_image.specs.Prelude.{data_start, data_with, gives, has_heap, initial_globals, zone_start}
pub use Rattle.sc_image.specs.Prelude.{jalr_target, jump, leaves, on_registers, refused, shift_on_registers, stack_top}
pub use Rattle.sc_image.specs.Prelude.{step, store, then_on, unless_trap, walk, written}
unfoldable pub use Rattle.sc_image.specs.Prelude.{are_data, word_at}
pub use Rattle.sc_tac.specs.Prelude.{is_unsigned}
pub use Rattle.sc_tac.specs.declared.stmt.TacOp.{TacOp}
pub use Rattle.sc_emit_select.specs.Prelude.{address_scratch, binary_code, binary_short, bytes_ahead, bytes_of}
pub use Rattle.sc_emit_select.specs.Prelude.{far_from_sp, frame_taken, is_short, load_word, loading, lower_part, move}
pub use Rattle.sc_emit_select.specs.Prelude.{moved_by, op_code, pointer_difference, pointer_move, second_scratch, short}
pub use Rattle.sc_emit_select.specs.Prelude.{short_code, short_form, store_word, unary_code, upper_part}
pub use Rattle.sc_emit_hart.specs.Common.{ImageParts, Instr}
pub use Rattle.sc_emit_hart.specs.Prelude.{Apart, AreOperands, Besides, CodeAt, CodeIsFetched, Computes, Does, Fetches}
pub use Rattle.sc_emit_hart.specs.Prelude.{FrameOverflows, IsFromSp, IsWritable, LeavesFrame, Owned, Registers, Stores}
pub use Rattle.sc_emit_hart.specs.Prelude.{TakesFrame, WordsAreKept, World, at, listed, look, op_word, put, set}
pub use Rattle.sc_emit_hart.specs.Prelude.{stepped_word, unary_word, words_from}
unfoldable pub use Rattle.sc_emit_hart.specs.Prelude.{put_word, word}
