-- What this crate's contracts, its proofs and the crates above cite, passed on from one place. Declares nothing.
pub use Rattle.sc_tac.specs.Branches.{branch_step, branches, stmt_branches}
pub use Rattle.sc_tac.specs.Code.{Codes, Temps, alloc_does, call_does, code_denotations, code_depth_by, code_does}
pub use Rattle.sc_tac.specs.Code.{code_function, code_functions, code_globals, code_meaning, code_meaning_by, code_run}
pub use Rattle.sc_tac.specs.Code.{code_step, code_wrapped, compared, constant_value, first_blocks, free_does}
pub use Rattle.sc_tac.specs.Code.{function_entered, gets, is_comparison, is_pointer, is_unsigned, known, no_temps}
pub use Rattle.sc_tac.specs.Code.{op_does, operated, read, read_all, received, return_does, scripted_code_by}
pub use Rattle.sc_tac.specs.Code.{scripted_code_depth_by, scripted_code_meaning, scripted_code_run, second, start_of}
pub use Rattle.sc_tac.specs.Code.{stmt_does, store_does, with_temp}
pub use Rattle.sc_tac.specs.Flow.{Ahead, Reading, all_assigned_first, is_assigned_first, is_one, nothing_ahead}
pub use Rattle.sc_tac.specs.Flow.{part_ahead, plain, reading, reading_step, round_first, row_first, row_fresh}
pub use Rattle.sc_tac.specs.Frames.{Apart, FrameFits, IsFrame, Range, end_of, frame_of, object_range, offsets_from}
pub use Rattle.sc_tac.specs.Frames.{ranges_of, slots_of, slots_up_to, word_at}
pub use Rattle.sc_tac.specs.Functions.{IsFunction, counts_elements, enters_by_words, has_elements, has_none}
pub use Rattle.sc_tac.specs.Functions.{has_operands, has_words, is_machine_word, leaves_heap, names_own_object}
pub use Rattle.sc_tac.specs.Functions.{names_own_temps, passes_few, passes_words, returns_result, some_hold}
pub use Rattle.sc_tac.specs.Functions.{stray_break, stray_continue, takes_two, uses_heap}
pub use Rattle.sc_tac.specs.Intervals.{AreCovering, AreIntervals, Span, Within, as_interval, from_here, has_call}
pub use Rattle.sc_tac.specs.Intervals.{interval_of, intervals_of, is_used, point_behind, span_from, span_of}
pub use Rattle.sc_tac.specs.Laws.{CodeObeys, WrappedCodeAgrees}
pub use Rattle.sc_tac.specs.MachineCode.{IsCode, is_address, is_jal, is_linkable}
pub use Rattle.sc_tac.specs.Parts.{all_true, everywhere, one_or_none, parts, temps_read, with_parts}
pub use Rattle.sc_tac.specs.Places.{ArePlaces, InSlot, IsAssignment, IsClear, IsSparing, PlacesAreClear, Share}
pub use Rattle.sc_tac.specs.Places.{is_place, register_count}
pub use Rattle.sc_tac.specs.Points.{Lives, Point, TempSet, Trail, ahead_at, function_points, if_calls, in_body, in_head}
pub use Rattle.sc_tac.specs.Points.{in_next, live_across, live_at_start, live_before, loop_points, nothing}
pub use Rattle.sc_tac.specs.Points.{nothing_live, part_lives, plain_points, point, points, readings, row_points}
pub use Rattle.sc_tac.specs.Points.{stmt_points, trail, trail_step}
pub use Rattle.sc_tac.specs.Programs.{IsProgram, are_entered, are_headed, calls_exports, calls_imports, calls_own}
pub use Rattle.sc_tac.specs.Programs.{count, cross_call_fits, entry_known, exports_entered, has_head, in_section}
pub use Rattle.sc_tac.specs.Programs.{is_entered, main_entered, names_own_global, numbered, own_call_fits, same_entry}
pub use Rattle.sc_tac.specs.Programs.{takes_result}
pub use Rattle.sc_tac.specs.Weights.{call_weight, entry_weight, op_weight, stmt_weight, weight, weight_step}
