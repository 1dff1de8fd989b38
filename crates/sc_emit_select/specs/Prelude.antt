-- What this crate's contracts, its proofs and the crates above cite, passed on from one place. Declares nothing.
pub use Rattle.rv_code.specs.Prelude.{IsImmediate, IsJumpOffset, IsReg}
pub use Rattle.rv_code.specs.declared.instr.Instr.TheVariants.{Jal, Load, Op, OpImm, Store, Upper}
pub use Rattle.rv_code.specs.declared.instr.OpImmOp.TheVariants.{Addi, Sltiu, Xori}
pub use Rattle.rv_code.specs.declared.instr.OpOp.TheVariants.{Add, Slt, Sltu}
pub use Rattle.sc_tac.specs.Prelude.{IsCode, IsFunction, entry_weight, is_place, is_unsigned, one_or_none}
pub use Rattle.sc_tac.specs.Prelude.{register_count, uses_heap, weight}
pub use Rattle.sc_tac.specs.declared.frame.FrameTree.{FrameTree}
pub use Rattle.sc_tac.specs.declared.place.Place.{Place}
pub use Rattle.sc_emit_select.specs.Bounds.{Fits, FitsBetween, FitsLoop, most_lines}
pub use Rattle.sc_emit_select.specs.Lines.{Line, code_of_lines, lines_of, plain, plainly, referring, relocation_of}
pub use Rattle.sc_emit_select.specs.Lines.{relocations_from}
pub use Rattle.sc_emit_select.specs.Linking.{Addresses, completed, is_named, linked, linked_from, low_after}
pub use Rattle.sc_emit_select.specs.Linking.{low_of_target, refers_only, relocations_after, target_at, with_low}
pub use Rattle.sc_emit_select.specs.Linking.{with_target}
pub use Rattle.sc_emit_select.specs.Marks.{Marked}
pub use Rattle.sc_emit_select.specs.Needs.{Need, has_mark, need, need_step, needed_in, needs_of, row_needs}
pub use Rattle.sc_emit_select.specs.Needs.{taken_needed}
pub use Rattle.sc_emit_select.specs.Operators.{added_by, binary_code, binary_short, by_sign, bytes_ahead, bytes_of}
pub use Rattle.sc_emit_select.specs.Operators.{inverted, is_not_zero, is_zero, less_than, op_code, pointer_difference}
pub use Rattle.sc_emit_select.specs.Operators.{pointer_move, short, short_code, short_form, stepped, unary_code}
pub use Rattle.sc_emit_select.specs.Pieces.{a0, a1, a7, address_scratch, epilogue, far_from_sp, first_scratch}
pub use Rattle.sc_emit_select.specs.Pieces.{frame_taken, is_short, load_word, loading, lower_part, move, moved_by, ra}
pub use Rattle.sc_emit_select.specs.Pieces.{register_of, second_scratch, sp, store_word, upper_part}
pub use Rattle.sc_emit_select.specs.Roles.{held_in, joins, operates, role_of_operation, role_of_return}
pub use Rattle.sc_emit_select.specs.Roles.{role_of_store, role_to_next, word_of_constant}
pub use Rattle.sc_emit_select.specs.Selection.{Breaks, Kind, Piece, Plain, Plan, Strays, Tests, all_plain, as_one}
pub use Rattle.sc_emit_select.specs.Selection.{at_hand, before_test, between, branch_back, branch_reach, breaking}
pub use Rattle.sc_emit_select.specs.Selection.{breaks, brought, call_cross, call_own, choice, choosing, closing}
pub use Rattle.sc_emit_select.specs.Selection.{code_of, continuing, copied, cycle, ending_past, ending_test}
pub use Rattle.sc_emit_select.specs.Selection.{environment_call, followed, fork, function_lines, in_order, in_turn}
pub use Rattle.sc_emit_select.specs.Selection.{is_break, is_near, is_plain, joined, jump_back, jump_over, keep, kept}
pub use Rattle.sc_emit_select.specs.Selection.{kind_by, kind_of_fork, load_from, loop_begins, nothing, object_offset}
pub use Rattle.sc_emit_select.specs.Selection.{object_read, object_store, operand, operation, pass, past, place_of}
pub use Rattle.sc_emit_select.specs.Selection.{place_of_global, plan_by, plan_of, prologue, put, receive}
pub use Rattle.sc_emit_select.specs.Selection.{result_register, return, role_before, role_first, role_of_load, rotated}
pub use Rattle.sc_emit_select.specs.Selection.{second_operand, select, select_all, select_step, short_operation}
pub use Rattle.sc_emit_select.specs.Selection.{short_return, skipping, slot_offset, store_arguments, store_to, straight}
pub use Rattle.sc_emit_select.specs.Selection.{straightly, take, take_second, taken, test_by, test_of, testing, turning}
