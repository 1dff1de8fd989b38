-- The names that several proofs of this crate cite, passed on from one place. Declares nothing.
pub use Rattle.std.proofs.Common.{Bool, Err, IsTrue, List, None, Option, Result, Some, [], ap, arith, codes, drop}
pub use Rattle.std.proofs.Common.{eq-eqb, eqb-true, false, get_or, if◌then◌else◌, ltb-true, map, nat_lt, not, refl}
pub use Rattle.std.proofs.Common.{slice_get, subst, suc, sym, take, true, zero, ℕ, ⊎_elim, ◌&&◌, ◌*◌, ◌++◌, ◌+◌, ◌-◌}
pub use Rattle.std.proofs.Common.{◌<◌, ◌==◌, ◌||◌, ◌∙◌, ◌∷◌, ◌≡◌, ◌≤◌}
pub use Rattle.std.proofs.lemmas.Bool.{or_cases, or_left, or_right}
pub use Rattle.std.specs.List.{list_all, range_with_len}
pub use Rattle.sc_event.specs.declared.interface.Interfaces.{Interfaces}
pub use Rattle.sc_core.proofs.Induction.{Each}
pub use Rattle.sc_core.specs.Prelude.{Arith, Blocks, Break, Calls, Continue, Denotations, Function, Here, Next, Reached}
pub use Rattle.sc_core.specs.Prelude.{Return, all_do, and_then, c_arith, choose, closed, elements_allocated}
pub use Rattle.sc_core.specs.Prelude.{frame_bound, functions_of, leave, load, released, roles_in, run_by, run_step}
pub use Rattle.sc_core.specs.Prelude.{scripted_step, stopped_at, stored, total, wrapping}
pub use Rattle.sc_core.specs.declared.cause.Cause.TheVariants.{BadType, Indeterminate, NoReturn, OutOfBounds, Overflow}
pub use Rattle.sc_core.specs.declared.section.TypedGlobal.{TypedGlobal}
pub use Rattle.sc_tac.specs.Common.{Entry, Event, Export, Main}
pub use Rattle.sc_tac.specs.Prelude.{Ahead, CodeObeys, Codes, IsAssignment, IsClear, IsFunction, IsProgram, Lives}
pub use Rattle.sc_tac.specs.Prelude.{PlacesAreClear, Point, Reading, Share, Span, TempSet, Temps, Trail, Within}
pub use Rattle.sc_tac.specs.Prelude.{WrappedCodeAgrees, ahead_at, all_assigned_first, alloc_does, branch_step, branches}
pub use Rattle.sc_tac.specs.Prelude.{call_does, calls_exports, calls_imports, calls_own, code_denotations, code_does}
pub use Rattle.sc_tac.specs.Prelude.{code_function, code_functions, code_globals, code_meaning, code_meaning_by}
pub use Rattle.sc_tac.specs.Prelude.{code_step, code_wrapped, constant_value, enters_by_words, entry_known}
pub use Rattle.sc_tac.specs.Prelude.{entry_weight, everywhere, free_does, from_here, function_points, gets, has_call}
pub use Rattle.sc_tac.specs.Prelude.{has_elements, has_none, has_operands, has_words, if_calls, in_body, in_head}
pub use Rattle.sc_tac.specs.Prelude.{in_next, interval_of, intervals_of, is_assigned_first, is_entered, is_one}
pub use Rattle.sc_tac.specs.Prelude.{is_unsigned, is_used, known, leaves_heap, live_across, live_at_start, live_before}
pub use Rattle.sc_tac.specs.Prelude.{loop_points, names_own_global, names_own_object, names_own_temps, no_temps}
pub use Rattle.sc_tac.specs.Prelude.{nothing_ahead, nothing_live, one_or_none, op_does, operated, part_ahead}
pub use Rattle.sc_tac.specs.Prelude.{part_lives, passes_few, plain, plain_points, point, point_behind, points, read}
pub use Rattle.sc_tac.specs.Prelude.{read_all, reading_step, readings, received, return_does, returns_result}
pub use Rattle.sc_tac.specs.Prelude.{round_first, row_first, row_fresh, row_points, same_entry, scripted_code_by}
pub use Rattle.sc_tac.specs.Prelude.{scripted_code_meaning, second, some_hold, span_from, span_of, start_of}
pub use Rattle.sc_tac.specs.Prelude.{stmt_branches, stmt_does, stmt_weight, store_does, stray_break, stray_continue}
pub use Rattle.sc_tac.specs.Prelude.{trail, trail_step, uses_heap, weight, weight_step, with_parts, with_temp}
pub use Rattle.sc_tac.specs.declared.function.TacFnTree.{TacFnTree}
pub use Rattle.sc_tac.specs.declared.program.TacSection.{TacSection}
pub use Rattle.sc_tac.specs.declared.program.TacTree.{TacTree}
pub use Rattle.sc_tac.specs.declared.stmt.TacStmt.{TacStmt, TacStmt-F, fold-TacStmt, fold-roll-TacStmt, ind-TacStmt}
pub use Rattle.sc_tac.specs.declared.stmt.TacStmt.{map-TacStmt, roll-TacStmt}
