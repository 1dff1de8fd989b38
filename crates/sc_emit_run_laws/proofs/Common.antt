-- The names that several proofs of this crate cite, passed on from one place. Declares nothing.
pub use Rattle.std.proofs.Common.{All, Bool, IsSome, List, None, Option, Some, [], ap, append-nil, append_assoc, ap₂}
pub use Rattle.std.proofs.Common.{arith, cond, drop, eq-eqb, eqb-true, false, filter, get_or-set_other, get_or-set_same}
pub use Rattle.std.proofs.Common.{if◌then◌else◌, inl, inr, is_some, le-leb, leb-false, leb-true, length, length-append}
pub use Rattle.std.proofs.Common.{lt-ltb, ltb-false, ltb-true, map, nat_le, nat_lt, ne_eqb, not, pos, refl, slice_get}
pub use Rattle.std.proofs.Common.{slice_index, slice_index_or, slice_set, subst, suc, sym, take, take-append-drop, true}
pub use Rattle.std.proofs.Common.{zero, zero-add, ℕ, ℤ, ⊎_elim, ◌%◌, ◌&&◌, ◌*◌, ◌++◌, ◌+◌, ◌-◌, ◌/◌, ◌<◌, ◌==◌, ◌^◌}
pub use Rattle.std.proofs.Common.{◌||◌, ◌∙◌, ◌∷◌, ◌≡◌, ◌≢◌, ◌≤◌, ◌⊎◌}
pub use Rattle.std.proofs.Math.Nat.{suc-add}
pub use Rattle.std.proofs.lemmas.Bool.{and_from, and_parts, cases_eq, cases_lt, false≢true, lt-leb, or_parts}
pub use Rattle.std.proofs.lemmas.List.{drop_all, length-map, length_push}
pub use Rattle.std.proofs.lemmas.List.Quantifiers.{position-Some}
pub use Rattle.std.proofs.lemmas.Option.{get_or_from_slice_get, same_Some, slice_get-map, slice_get_within}
pub use Rattle.std.specs.List.{list_all, list_any, position}
pub use Rattle.std.specs.Option.{option_and_then, option_map, option_map_or}
pub use Rattle.sc_base.proofs.Lists.{drop_next, is_there, position-cons, take_all, take_prefix}
pub use Rattle.sc_base.specs.Prelude.{IsPrefix}
pub use Rattle.sc_base.specs.declared.stop.Stop.{Stop}
pub use Rattle.sc_event.specs.Prelude.{Activation, Standing, action_of, at_start, comp_at, count_of, export_at, imports}
pub use Rattle.sc_event.specs.Prelude.{is_allowed, is_end, is_function, is_legal_from, is_output, legal, may_perform}
pub use Rattle.sc_event.specs.Prelude.{part, performer, rows_from, stands_after, stands_after_all, takes}
pub use Rattle.sc_event.specs.declared.event.Event.TheVariants.{Call, End, In, Out, Ret}
pub use Rattle.sc_event.specs.declared.interface.Interface.{Interface}
pub use Rattle.sc_event.specs.declared.interface.Scalar.{Scalar}
pub use Rattle.sc_event.specs.declared.row.Row.{Row}
pub use Rattle.sc_word.specs.Prelude.{add_word, sub_word, word_of}
pub use Rattle.sc_core.specs.Prelude.{Body, Closed, Denotations, FrameChange, Function, Here, IsStop, Memory, Opened}
pub use Rattle.sc_core.specs.Prelude.{Piece, Reached, Roles, Run, State, Stopped, acts, and_then, asks, back_cross}
pub use Rattle.sc_core.specs.Prelude.{back_own, begun, call_cross, call_own, called, crossed, crossing, deepest}
pub use Rattle.sc_core.specs.Prelude.{depth_in, done, emit_event, exit_word, first_state, found, function, is_number}
pub use Rattle.sc_core.specs.Prelude.{is_word, leads, may_call, next_input, option_value, performs, reaches, read_input}
pub use Rattle.sc_core.specs.Prelude.{roles_in, rows_left, run_in, run_step, run_to, scripted_step, stopped_at, truth}
pub use Rattle.sc_core.specs.Prelude.{turn, turn_of, within, word_back, word_in, wrapping}
pub use Rattle.sc_core.specs.declared.cause.Cause.TheVariants.{BadType}
pub use Rattle.sc_core.specs.declared.expr.CallTarget.{CallTarget}
pub use Rattle.sc_core.specs.declared.run.RunEnd.{RunEnd}
pub use Rattle.sc_core.specs.declared.run.SourceRun.{SourceRun}
pub use Rattle.sc_core.specs.declared.value.Cell.{Cell}
pub use Rattle.sc_core.specs.declared.value.Value.TheVariants.{Null, Ptr}
pub use Rattle.sc_core_laws.proofs.Depths.{before_more, deepest_is_reached, keeps_depths}
pub use Rattle.sc_core_laws.proofs.Growing.{BodyGoes, asks_is, back_goes, calls_go, done_goes, earlier, own_goes}
pub use Rattle.sc_core_laws.proofs.Growing.{prefix_more, prefix_same, then_then, within_goes}
pub use Rattle.sc_core_laws.proofs.Matching.{run_goes_on, scripted_goes_on}
pub use Rattle.sc_core_laws.proofs.Rows.{Next, row_of_next, rows_after, stands_last}
pub use Rattle.sc_core_laws.proofs.Runs.{frames_are, prefix_long, take_prefixes, trace_is}
pub use Rattle.sc_core_laws.proofs.Scripts.{allowed_at, spends_along}
pub use Rattle.sc_core_laws.specs.Prelude.{AgreesInDepth, AgreesUntilBlame, AllBefore, AllFrom, ExportsLead, Gone}
pub use Rattle.sc_core_laws.specs.Prelude.{RunsAgree, RunsUntilBlame, StopsSpent, blamed, blamed_run, depth_after}
pub use Rattle.sc_core_laws.specs.Prelude.{has_no_end, last, main_call, same, same_run, scripted_call, stack_depth}
pub use Rattle.sc_core_laws.specs.Prelude.{without_line}
pub use Rattle.rv_code.specs.declared.instr.Instr.TheVariants.{Ecall, Jal, Store}
pub use Rattle.sc_image.proofs.Cases.{step_of}
pub use Rattle.sc_image.proofs.Reached.{called_other, called_there, runs_are_steady}
pub use Rattle.sc_image.proofs.Running.{run_goes, run_out, run_stopped, run_traps, walk_one}
pub use Rattle.sc_image.proofs.Stretches.{goes_adds, goes_one, not_stopped, steps_emit, walk_adds}
pub use Rattle.sc_image.specs.Prelude.{Crossing, Goes, IsAt, IsSteadyState, IsWellFormed, IsWord, Outcome, Traps, Walks}
pub use Rattle.sc_image.specs.Prelude.{are_data, arguments, cleared_for_call, cleared_for_return, on_end, exported_by}
pub use Rattle.sc_image.specs.Prelude.{gate, given_back, has_result, on_input, input_at, is_argument, is_ended}
pub use Rattle.sc_image.specs.Prelude.{is_result, jalr_target, kept, kept_from, may_input, may_output, on_output}
pub use Rattle.sc_image.specs.Prelude.{export_params, reg, on_return, on_return_to, run, stack_size, stack_top}
pub use Rattle.sc_image.specs.Prelude.{stack_tops, start, start_memory, step, store_size, then_on, walk, with_pc}
pub use Rattle.sc_image.specs.Prelude.{word_at, written}
unfoldable pub use Rattle.sc_image.specs.Prelude.{stopped}
pub use Rattle.sc_tac.proofs.Matching.{code_obeys}
pub use Rattle.sc_tac.specs.Prelude.{IsFunction, IsProgram, are_entered, are_headed, calls_exports, calls_imports}
pub use Rattle.sc_tac.specs.Prelude.{calls_own, code_denotations, code_function, code_functions, code_globals, code_run}
pub use Rattle.sc_tac.specs.Prelude.{count, cross_call_fits, enters_by_words, everywhere, exports_entered, first_blocks}
pub use Rattle.sc_tac.specs.Prelude.{function_entered, has_head, in_section, is_entered, main_entered, names_own_global}
pub use Rattle.sc_tac.specs.Prelude.{numbered, own_call_fits, passes_words, same_entry, scripted_code_run, takes_result}
pub use Rattle.sc_tac.specs.declared.program.TacSection.{TacSection}
pub use Rattle.sc_tac.specs.declared.stmt.TacStmt.{TacStmt, TacStmt-F, map-TacStmt}
pub use Rattle.sc_emit_select.specs.Prelude.{Addresses, a0, a7, frame_taken, linked_from, moved_by, ra, sp}
pub use Rattle.sc_emit_hart.proofs.Inside.{IsInside, code_inside}
pub use Rattle.sc_emit_hart.proofs.Registers.{put_here, put_there, read_listed, write_listed}
pub use Rattle.sc_emit_hart.proofs.Steady.{walks_steady}
pub use Rattle.sc_emit_hart.proofs.Steps.{jal, jalr, stay, then_go}
pub use Rattle.sc_emit_hart.specs.Prelude.{CodeAt, Fetches, Owned, Registers, listed, put, words_from}
unfoldable pub use Rattle.sc_emit_hart.specs.Prelude.{word}
pub use Rattle.sc_emit_relation.proofs.Coming.{came_by}
pub use Rattle.sc_emit_relation.proofs.Settling.{settled_moved}
pub use Rattle.sc_emit_relation.proofs.Stretches.{emits_after, emits_here, leads_then, overflows_after, overflows_then}
pub use Rattle.sc_emit_relation.specs.Prelude.{AllHonest, AreFloors, ArePassed, Begins, BlocksMatch, CallGives}
pub use Rattle.sc_emit_relation.specs.Prelude.{CallStands, CallsFollow, ComesBack, Costs, Effect, Emits, FunctionGives}
pub use Rattle.sc_emit_relation.specs.Prelude.{GivesValue, InCell, Injection, IsAddress, IsBase, IsLeft, Joint, Leads}
pub use Rattle.sc_emit_relation.specs.Prelude.{LiveAt, Overflows, Placed, Protected, ReturnsValue, Setting, Settled}
pub use Rattle.sc_emit_relation.specs.Prelude.{LiesAt, Standpoint, StandsFor, ZoneMatches, machine, world_at}
pub use Rattle.sc_emit_run_laws.specs.Common.{Blamed, Cross, Ended, Event, EventsOut, Export, ImageParts, Input, Main}
pub use Rattle.sc_emit_run_laws.specs.Common.{Output, Own, Owner, Proto, TacFnTree, TacTree, TurnsOut, Value, Word}
pub use Rattle.sc_emit_run_laws.specs.Prelude.{BodiesFollow, Departs, EntersBy, Finishes, GivesResults, HasCode}
pub use Rattle.sc_emit_run_laws.specs.Prelude.{HasEmitted, IsBlamed, IsBuilt, IsFull, IsLinked, IsRun, IsUnknown}
pub use Rattle.sc_emit_run_laws.specs.Prelude.{KeepsTo, OutcomesSimulate, PerformersDo, PerformersFollow, Reaches}
pub use Rattle.sc_emit_run_laws.specs.Prelude.{ScriptsSimulate, Simulates, SimulatesRun, Stands, StackIsFull}
pub use Rattle.sc_emit_run_laws.specs.Prelude.{UnknownComes, UnknownGives, bodies, calls_of, departing, entered_by}
pub use Rattle.sc_emit_run_laws.specs.Prelude.{finishes, functions_in, functions_or_none, gives, gives_result, is_full}
pub use Rattle.sc_emit_run_laws.specs.Prelude.{makes, nobody, promises_result, ran, setting, stands}
