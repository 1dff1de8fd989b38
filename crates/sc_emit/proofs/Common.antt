-- The names that several proofs of this crate cite, passed on from one place. Declares nothing.
pub use Rattle.std.proofs.Common.{All, Bool, Err, IfOk, IsSome, IsTrue, List, None, Ok, Option, Result, Some, [], ap}
pub use Rattle.std.proofs.Common.{append-nil, append_assoc, ap₂, arith, cond, eq-eqb, eqb-true, false, if◌then◌else◌}
pub use Rattle.std.proofs.Common.{inl, inr, is_some, le-leb, leb-true, length, length-append, lt-ltb, ltb-true, map}
pub use Rattle.std.proofs.Common.{max, nat_eq, nat_le, nat_lt, ne_eqb, neg_ℤ, not, pos, refl, slice_get, subst, suc}
pub use Rattle.std.proofs.Common.{sym, true, true≢false, zero, ℕ, ℤ, ⊎_elim, ◌%◌, ◌&&◌, ◌*◌, ◌++◌, ◌+◌, ◌-ℤ◌, ◌-◌, ◌/◌}
pub use Rattle.std.proofs.Common.{◌<◌, ◌==◌, ◌^◌, ◌||◌, ◌∙◌, ◌∷◌, ◌≡◌, ◌≢◌, ◌≤◌, ◌⊎◌}
pub use Rattle.std.proofs.lemmas.Bool.{and_from, and_parts, cases_eq, cases_lt, lt-leb, or_left, or_right}
pub use Rattle.std.proofs.lemmas.List.{length-map, map-append}
pub use Rattle.std.proofs.lemmas.List.Elements.{All-cons, All-nil, All-tail}
pub use Rattle.std.proofs.lemmas.List.Folds.{list_all-append, list_all-map}
pub use Rattle.std.proofs.lemmas.List.Sums.{sum_by-append}
pub use Rattle.std.proofs.lemmas.Option.{same_Some, slice_get-get_or, slice_get_within}
pub use Rattle.std.specs.List.{count_by, list_all, range_with_len}
pub use Rattle.std.specs.Option.{unwrap_or}
pub use Rattle.sc_base.proofs.Bools.{and_first, and_rest, some_value}
pub use Rattle.sc_base.proofs.Lists.{all_at, is_there, list_all_along}
pub use Rattle.sc_event.specs.declared.row.Entry.{Entry}
pub use Rattle.sc_event.specs.declared.row.Entry.TheVariants.{Export, Main}
pub use Rattle.sc_word.proofs.Words.{word_of-lt, word_of-unsigned_sub}
pub use Rattle.sc_word.specs.Prelude.{add_word, sub_word, word_of}
pub use Rattle.sc_core.proofs.Induction.{Each, everywhere}
pub use Rattle.sc_core.specs.Prelude.{Blocks, Break, Calls, Continue, Exit, Function, Here, Left, Next, Piece, Reached}
pub use Rattle.sc_core.specs.Prelude.{Return, State, Stopped, all_do, allocated, and_then, at_brace, begun, choose}
pub use Rattle.sc_core.specs.Prelude.{closed, computed, count_in, done, elements_allocated, follow, freed, in_loop}
pub use Rattle.sc_core.specs.Prelude.{is_true, leave, load, placed, released, rounds, spans_of, store, stored, total}
pub use Rattle.sc_core.specs.Prelude.{turn, with_memory, wrapping}
pub use Rattle.sc_core.specs.declared.cause.Cause.{Cause}
pub use Rattle.sc_core.specs.declared.expr.CallTarget.{CallTarget}
pub use Rattle.sc_core.specs.declared.expr.CallTarget.TheVariants.{Cross, Input, Output, Own}
pub use Rattle.sc_core.specs.declared.value.Value.{Value}
pub use Rattle.sc_core.specs.declared.value.Value.TheVariants.{Null, Ptr, Word}
pub use Rattle.sc_core_laws.proofs.Growing.{FunctionGoes, done_goes, follow_goes, prefix_same, reached, same, stays}
pub use Rattle.sc_core_laws.proofs.Growing.{then_from, then_goes, then_then}
pub use Rattle.sc_core_laws.specs.Prelude.{Goes, Gone, Grown, last}
pub use Rattle.rv_code.specs.declared.instr.BranchOp.TheVariants.{Bne}
pub use Rattle.rv_code.specs.declared.instr.Instr.TheVariants.{Branch, Ebreak, Ecall, Jal, Jalr, Load, Op, OpImm, Store}
pub use Rattle.rv_code.specs.declared.instr.Instr.TheVariants.{Upper}
pub use Rattle.rv_code.specs.declared.instr.OpImmOp.TheVariants.{Addi}
pub use Rattle.rv_code.specs.declared.instr.StoreOp.TheVariants.{Sw}
pub use Rattle.rv_code.specs.declared.instr.UpperOp.TheVariants.{Lui}
pub use Rattle.sc_store.specs.Prelude.{ByteMemory}
pub use Rattle.sc_image.specs.Prelude.{IsWellFormed, IsWord, Traps, Walks, code_start, data_start, gate, has_heap}
pub use Rattle.sc_image.specs.Prelude.{jalr_target, refused, stack_top, start, start_memory, step, unless_trap}
unfoldable pub use Rattle.sc_image.specs.Prelude.{are_data, word_at}
pub use Rattle.sc_image.specs.declared.parts.ImageParts.{ImageParts}
pub use Rattle.sc_tac.proofs.Induction.{Inside, stmt_induction}
pub use Rattle.sc_tac.specs.Prelude.{Ahead, ArePlaces, Codes, FrameFits, IsAssignment, IsClear, IsFrame, IsFunction}
pub use Rattle.sc_tac.specs.Prelude.{Lives, Point, TempSet, Temps, Trail, ahead_at, all_true, alloc_does, branch_step}
pub use Rattle.sc_tac.specs.Prelude.{branches, call_does, code_denotations, code_does, code_function, code_step}
pub use Rattle.sc_tac.specs.Prelude.{constant_value, counts_elements, entry_weight, free_does, function_points, gets}
pub use Rattle.sc_tac.specs.Prelude.{has_elements, has_operands, has_words, interval_of, intervals_of, is_one, is_place}
pub use Rattle.sc_tac.specs.Prelude.{known, leaves_heap, live_across, live_before, names_own_object, names_own_temps}
pub use Rattle.sc_tac.specs.Prelude.{no_temps, nothing_live, one_or_none, operated, parts, passes_few, passes_words}
pub use Rattle.sc_tac.specs.Prelude.{plain_points, point, read, read_all, readings, received, register_count}
pub use Rattle.sc_tac.specs.Prelude.{return_does, row_first, row_points, same_entry, second, slots_of, slots_up_to}
pub use Rattle.sc_tac.specs.Prelude.{start_of, stmt_branches, stmt_does, takes_two, trail, trail_step, uses_heap}
pub use Rattle.sc_tac.specs.Prelude.{weight, with_parts, with_temp}
pub use Rattle.sc_tac.specs.declared.frame.FrameTree.{FrameTree}
pub use Rattle.sc_tac.specs.declared.function.TacFnTree.{TacFnTree}
pub use Rattle.sc_tac.specs.declared.place.Place.{Place}
pub use Rattle.sc_tac.specs.declared.place.Place.TheVariants.{Register, Slot}
pub use Rattle.sc_tac.specs.declared.stmt.Constant.{Constant}
pub use Rattle.sc_tac.specs.declared.stmt.TacOp.{TacOp}
pub use Rattle.sc_tac.specs.declared.stmt.TacStmt.{fold-roll-TacStmt, map-TacStmt, roll-TacStmt}
pub use Rattle.sc_emit_select.proofs.Joining.{IsRead, IsReturned, IsShort, IsStored, between_keeps, fork_keeps}
pub use Rattle.sc_emit_select.proofs.Joining.{fork_role, gives_place, is_empty, loads_it, never_applies, none_after}
pub use Rattle.sc_emit_select.proofs.Joining.{operates_it, operation_role, order_keeps, parts_least, read_is_last}
pub use Rattle.sc_emit_select.proofs.Joining.{return_is_last, return_of, returns_it, role_unjoined, sets_it}
pub use Rattle.sc_emit_select.proofs.Joining.{store_is_last, store_role, stores_it, third_is_last, turning_role}
pub use Rattle.sc_emit_select.proofs.Joining.{which_pair}
pub use Rattle.sc_emit_select.proofs.Sizes.{row_is_sized}
pub use Rattle.sc_emit_select.proofs.Turning.{IsTested, break_stmt, each_before, each_plain, fork_kind, kind_is}
pub use Rattle.sc_emit_select.proofs.Turning.{kind_of, layer_kind, loop_kind, plain_fork, test_stmt, turning_by}
pub use Rattle.sc_emit_select.specs.Prelude.{Addresses, Kind, Line, Need, Plan, Strays, a0, a1, a7, address_scratch}
pub use Rattle.sc_emit_select.specs.Prelude.{all_plain, as_one, at_hand, between, binary_code, branch_back}
pub use Rattle.sc_emit_select.specs.Prelude.{branch_reach, brought, bytes_ahead, bytes_of, call_cross, call_own, choice}
pub use Rattle.sc_emit_select.specs.Prelude.{choosing, closing, code_of, completed, copied, cycle, ending_past}
pub use Rattle.sc_emit_select.specs.Prelude.{ending_test, environment_call, epilogue, first_scratch, followed, fork}
pub use Rattle.sc_emit_select.specs.Prelude.{frame_taken, function_lines, held_in, in_order, in_turn, is_named, is_near}
pub use Rattle.sc_emit_select.specs.Prelude.{is_plain, is_short, joined, joins, jump_back, jump_over, keep, kept}
pub use Rattle.sc_emit_select.specs.Prelude.{kind_of_fork, linked, load_from, load_word, loading, loop_begins}
pub use Rattle.sc_emit_select.specs.Prelude.{low_after, lower_part, move, moved_by, need, need_step, needs_of, nothing}
pub use Rattle.sc_emit_select.specs.Prelude.{object_offset, object_read, object_store, op_code, operand, operation}
pub use Rattle.sc_emit_select.specs.Prelude.{pass, past, place_of, place_of_global, plain, plainly, plan_of, prologue}
pub use Rattle.sc_emit_select.specs.Prelude.{put, ra, receive, referring, refers_only, register_of, relocation_of}
pub use Rattle.sc_emit_select.specs.Prelude.{relocations_from, result_register, return, role_first, role_of_load}
pub use Rattle.sc_emit_select.specs.Prelude.{role_of_operation, role_of_return, role_of_store, role_to_next, rotated}
pub use Rattle.sc_emit_select.specs.Prelude.{row_needs, second_operand, second_scratch, select, select_all, select_step}
pub use Rattle.sc_emit_select.specs.Prelude.{short_code, short_form, short_operation, short_return, skipping}
pub use Rattle.sc_emit_select.specs.Prelude.{slot_offset, sp, store_arguments, store_to, store_word, straight}
pub use Rattle.sc_emit_select.specs.Prelude.{straightly, take, take_second, taken, taken_needed, testing, unary_code}
pub use Rattle.sc_emit_select.specs.Prelude.{upper_part, word_of_constant}
pub use Rattle.sc_emit_select.specs.declared.operators.ShortForm.{ShortForm}
pub use Rattle.sc_emit_select.specs.declared.roles.Role.{Role}
pub use Rattle.sc_emit_select.specs.declared.roles.Role.TheVariants.{Applies, Loads, Operates, Other, Places, Sets}
pub use Rattle.sc_emit_hart.proofs.Fetching.{back_at, moved_to, prefix_at}
pub use Rattle.sc_emit_hart.proofs.Frames.{leaves_frame, overflows, takes_frame}
pub use Rattle.sc_emit_hart.proofs.Inside.{IsInside, code_inside}
pub use Rattle.sc_emit_hart.proofs.Loading.{loads_long, loads_number, moves, moves_on}
pub use Rattle.sc_emit_hart.proofs.NearSp.{loads_word, stores_word}
pub use Rattle.sc_emit_hart.proofs.Rows.{computes, in_row, look_at, looked, upper, with_number}
pub use Rattle.sc_emit_hart.specs.Prelude.{Apart, AreOperands, Besides, CodeAt, Computes, Does, Fetches, FrameOverflows}
pub use Rattle.sc_emit_hart.specs.Prelude.{IsFromSp, IsWritable, LeavesFrame, Owned, Registers, Stores, TakesFrame}
pub use Rattle.sc_emit_hart.specs.Prelude.{World, at, epilogue_to_jump, look, op_word, put_word, word}
pub use Rattle.sc_emit_relation.proofs.Calling.{Enters, activated, entered, is_activation, ready_entered}
pub use Rattle.sc_emit_relation.proofs.Clear.{all_back, all_prefix}
pub use Rattle.sc_emit_relation.proofs.Following.{IsBack, back_with, comes_computed, comes_read, is_back}
pub use Rattle.sc_emit_relation.proofs.Frames.{object_inside, object_there, objects_apart, own_beside, own_inside}
pub use Rattle.sc_emit_relation.proofs.Functions.{function_follows, overflows_entering}
pub use Rattle.sc_emit_relation.proofs.Jumps.{back_to, break_follows, continue_follows, over}
pub use Rattle.sc_emit_relation.proofs.Lines.{InParts, completed_length, completed_plainly, in_parts, low_append}
pub use Rattle.sc_emit_relation.proofs.Lines.{low_plainly, plainly_at}
pub use Rattle.sc_emit_relation.proofs.Operators.{operator_stands}
pub use Rattle.sc_emit_relation.proofs.Registers.{HasNoOtherUse, no_other_use, register_there}
pub use Rattle.sc_emit_relation.proofs.Rotated.{ArrivesLate, HeadComes, HeadFollows, rotated_follows}
pub use Rattle.sc_emit_relation.proofs.Rounds.{ready_less}
pub use Rattle.sc_emit_relation.proofs.Running.{ArePlaced, HasNoGap, IsPlace, IsRunning}
pub use Rattle.sc_emit_relation.proofs.Settling.{leads_moved, moved, settled_moved}
pub use Rattle.sc_emit_relation.proofs.Assigning.{IsLoaded, MovesOn, assigned, assigned_at, assigns_slot, loads}
pub use Rattle.sc_emit_relation.proofs.Assigning.{may_store, stores}
pub use Rattle.sc_emit_relation.proofs.Straight.{across_live, asked, assigns_register, call_from, emits_from}
pub use Rattle.sc_emit_relation.proofs.Straight.{live_plain, overflows_from, settled_to}
pub use Rattle.sc_emit_relation.proofs.Stretches.{arrives_with, comes_after, effect_still, emits_after, emits_here}
pub use Rattle.sc_emit_relation.proofs.Stretches.{emits_less, leads_less, leads_none, leads_then, leads_then_steps}
pub use Rattle.sc_emit_relation.proofs.Stretches.{overflows_then, overflows_with, returns_with}
pub use Rattle.sc_emit_relation.proofs.Wanted.{wanted_less}
pub use Rattle.sc_emit_relation.specs.Prelude.{Activation, AreInPlace, ArePassed, Arrives, Begins, CallGives}
pub use Rattle.sc_emit_relation.specs.Prelude.{CallStands, CallsFollow, Comes, ComesBack, Emits, Ends, ExitGives}
pub use Rattle.sc_emit_relation.specs.Prelude.{Follows, FrameMatches, FunctionFollows, FunctionGives, Gives, GivesValue}
pub use Rattle.sc_emit_relation.specs.Prelude.{InPlace, IsActivation, IsAddress, IsInPlace, IsSound, Joint, Leads}
pub use Rattle.sc_emit_relation.specs.Prelude.{Overflows, Ready, Returns, ReturnsValue, Running, Setting, Settled}
pub use Rattle.sc_emit_relation.specs.Prelude.{Standpoint, StandsAt, StandsFor, Starts, ends_of, live_at, machine}
pub use Rattle.sc_emit_relation.specs.Prelude.{of_environment, row, runs_with, seen_from, wanted, world_at}
pub use Rattle.sc_emit.specs.Common.{CodeTree, Instr, TacStmt, TacStmt-F, fold-TacStmt}
pub use Rattle.sc_emit.specs.Prelude.{AreReached, IsEmitted, IsPlaced, calls_only, code_back_edges, code_branches}
pub use Rattle.sc_emit.specs.Prelude.{has_known_jumps, has_no_ebreak, is_backward, is_branch, is_call, is_ebreak}
pub use Rattle.sc_emit.specs.Prelude.{is_known_jump, leads_back, loop_step, loops, names_only, stmt_loops}
