-- The names that several proofs of this crate cite, passed on from one place. Declares nothing.
pub use Rattle.std.proofs.Common.{All, AllPairs, Bool, IsTrue, List, None, OnOk, Option, Some, [], add-one, ap}
pub use Rattle.std.proofs.Common.{append-nil, append_assoc, ap₂, arith, drop, drop-cons, eq-eqb, eqb-true, false}
pub use Rattle.std.proofs.Common.{get_or, if◌then◌else◌, inl, inr, is_some, le-ltb, length, length-append, lt-ltb}
pub use Rattle.std.proofs.Common.{ltb-true, map, nat_lt, ne_eqb, neg_ℤ, negsuc, not, pos, pred, refl, replicate}
pub use Rattle.std.proofs.Common.{reverse, slice_get, slice_set, subst, suc, sym, true, zero, ℕ, ⊎_elim, ◌&&◌, ◌*◌}
pub use Rattle.std.proofs.Common.{◌++◌, ◌+◌, ◌-◌, ◌<◌, ◌==◌, ◌^◌, ◌||◌, ◌∙◌, ◌∷◌, ◌≡◌, ◌≤◌, ◌⊎◌}
pub use Rattle.std.proofs.lemmas.Bool.{and_from}
pub use Rattle.std.proofs.lemmas.List.{length-map, length-reverse, reverse-append, reverse-reverse}
pub use Rattle.std.proofs.lemmas.Result.{IfOk-weaker, on_ok_weaker}
pub use Rattle.std.specs.declared.result.Result.{Result}
pub use Rattle.sc_base.proofs.Bools.{and_first, and_rest}
pub use Rattle.sc_word.specs.Prelude.{sub_word}
pub use Rattle.sc_core.proofs.Induction.{Each}
pub use Rattle.rv_code.specs.declared.instr.BranchOp.TheVariants.{Bne}
pub use Rattle.sc_tac.proofs.Induction.{Inside, stmt_induction}
pub use Rattle.sc_tac.specs.Prelude.{IsCode, IsFunction, all_true, entry_weight, everywhere, frame_of, has_operands}
pub use Rattle.sc_tac.specs.Prelude.{is_address, is_jal, is_linkable, is_one, is_unsigned, leaves_heap, names_own_temps}
pub use Rattle.sc_tac.specs.Prelude.{one_or_none, op_weight, parts, passes_few, stmt_weight, takes_two, uses_heap}
pub use Rattle.sc_tac.specs.Prelude.{weight, weight_step, with_parts}
pub use Rattle.sc_tac.specs.declared.function.TacFnTree.{TacFnTree}
pub use Rattle.sc_tac.specs.declared.place.Place.TheVariants.{Register, Slot}
pub use Rattle.sc_tac.specs.declared.stmt.TacStmt.{fold-roll-TacStmt, map-TacStmt}
unfoldable pub use Rattle.sc_tac.specs.declared.stmt.TacStmt.{roll-TacStmt}
pub use Rattle.sc_emit_select.specs.Common.{Branch, CodeTree, Div, Ecall, Entry, Function, Global, Instr, Jalr, Lui, Lw}
pub use Rattle.sc_emit_select.specs.Common.{Mul, Relocation, Shift, Sub, Sw, TacOp, TacStmt, TacStmt-F, Target}
pub use Rattle.sc_emit_select.specs.Common.{fold-TacStmt}
pub use Rattle.sc_emit_select.specs.Prelude.{Add, Addi, Breaks, Fits, FitsBetween, FitsLoop, FrameTree, Jal, Kind, Line}
pub use Rattle.sc_emit_select.specs.Prelude.{Load, Marked, Need, Op, OpImm, Piece, Place, Plain, Plan, Store, Strays}
pub use Rattle.sc_emit_select.specs.Prelude.{Tests, Upper, all_plain, as_one, at_hand, before_test, between}
pub use Rattle.sc_emit_select.specs.Prelude.{binary_code, branch_back, branch_reach, breaks, brought, bytes_ahead}
pub use Rattle.sc_emit_select.specs.Prelude.{bytes_of, call_cross, call_own, choice, choosing, closing, code_of}
pub use Rattle.sc_emit_select.specs.Prelude.{code_of_lines, copied, cycle, ending_past, ending_test, environment_call}
pub use Rattle.sc_emit_select.specs.Prelude.{epilogue, first_scratch, followed, fork, frame_taken, function_lines}
pub use Rattle.sc_emit_select.specs.Prelude.{has_mark, held_in, in_order, in_turn, is_break, is_near, is_plain}
pub use Rattle.sc_emit_select.specs.Prelude.{is_short, joined, joins, jump_back, jump_over, keep, kept, kind_by}
pub use Rattle.sc_emit_select.specs.Prelude.{kind_of_fork, lines_of, load_from, load_word, loading, loop_begins}
pub use Rattle.sc_emit_select.specs.Prelude.{moved_by, need, need_step, needed_in, needs_of, nothing, object_offset}
pub use Rattle.sc_emit_select.specs.Prelude.{object_read, object_store, op_code, operand, operation, pass, past}
pub use Rattle.sc_emit_select.specs.Prelude.{place_of_global, plain, plainly, plan_by, plan_of, pointer_difference}
pub use Rattle.sc_emit_select.specs.Prelude.{pointer_move, prologue, put, receive, referring, register_of}
pub use Rattle.sc_emit_select.specs.Prelude.{relocation_of, relocations_from, result_register, return, role_before}
pub use Rattle.sc_emit_select.specs.Prelude.{role_first, role_of_load, role_of_operation, role_of_return, role_of_store}
pub use Rattle.sc_emit_select.specs.Prelude.{role_to_next, rotated, row_needs, second_operand, select, select_all}
pub use Rattle.sc_emit_select.specs.Prelude.{select_step, short_code, short_form, short_operation, short_return}
pub use Rattle.sc_emit_select.specs.Prelude.{skipping, slot_offset, stepped, store_arguments, store_to, store_word}
pub use Rattle.sc_emit_select.specs.Prelude.{straight, straightly, take, take_second, taken, taken_needed, test_by}
pub use Rattle.sc_emit_select.specs.Prelude.{test_of, testing, turning, unary_code, word_of_constant}
pub use Rattle.sc_emit_select.specs.declared.operators.ShortForm.{ShortForm}
pub use Rattle.sc_emit_select.specs.declared.roles.Role.{Role}
pub use Rattle.sc_emit_select.specs.declared.roles.Role.TheVariants.{Applies, Loads, Operates, Other, Places, Returns}
pub use Rattle.sc_emit_select.specs.declared.roles.Role.TheVariants.{Sets, Stores}
