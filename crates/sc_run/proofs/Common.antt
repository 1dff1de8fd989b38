-- The names that several proofs of this crate cite, passed on from one place. Declares nothing.
pub use Rattle.std.proofs.Common.{Bool, Err, List, None, Ok, Option, Result, Some, [], add-one, ap, append-nil}
pub use Rattle.std.proofs.Common.{append_assoc, arith, drop, drop-cons, eq-eqb, false, get_or, if◌then◌else◌, is_some}
pub use Rattle.std.proofs.Common.{le-leb, length, length-append, length-drop, length-take, lt-ltb, map, nat_lt, not}
pub use Rattle.std.proofs.Common.{pos, refl, replicate, reverse, rules, slice_get, slice_index_or, slice_set, subst}
pub use Rattle.std.proofs.Common.{suc, sym, take, take_all, true, true≢false, zero, ℕ, ℤ, ◌&&◌, ◌++◌, ◌+ℤ◌, ◌+◌, ◌-◌}
pub use Rattle.std.proofs.Common.{◌<◌, ◌==◌, ◌∙◌, ◌∷◌, ◌≡◌, ◌≤◌}
pub use Rattle.std.proofs.lemmas.Bool.{false≢true}
pub use Rattle.std.proofs.lemmas.List.{drop_all, length-map, map-append, map-set, reverse-append, take-append-le}
pub use Rattle.std.proofs.lemmas.List.{take-map, take_more}
pub use Rattle.std.proofs.lemmas.Result.{IfOk-weaker}
pub use Rattle.std.specs.Option.{option_copied}
pub use denote.Bor.{Bor}
pub use Rattle.sc_base.proofs.Lists.{drop-step, drop_next}
pub use Rattle.sc_event.specs.declared.event.Event.TheVariants.{End, In, Out}
pub use Rattle.sc_event.specs.declared.row.Entry.TheVariants.{Export, Main}
pub use Rattle.sc_core.proofs.Layers.{expr_at, layer_of, stmt_at, term_of, typed}
pub use Rattle.sc_core.specs.Prelude.{Acts, Block, Blocks, Break, Calls, Exit, Function, Here, IsStop, Left, Meant}
pub use Rattle.sc_core.specs.Prelude.{Memory, Next, Piece, Reached, Return, Route, State, Stopped, Ways, all_do}
pub use Rattle.sc_core.specs.Prelude.{and_then, applied, applied_one, assign, at_place, at_pointer, back_cross}
pub use Rattle.sc_core.specs.Prelude.{back_own, begun, between, binary, bind, block_does, blocks_for, c_arith, call}
pub use Rattle.sc_core.specs.Prelude.{call_own, called, cell_of, cells_at, cells_of, choose, computed, crossed, done}
pub use Rattle.sc_core.specs.Prelude.{emit_event, ended, entry_in, evaluated, exit_word, first_blocks, first_state}
pub use Rattle.sc_core.specs.Prelude.{first_word, follow, found, function, function_of, functions_in, global_block}
pub use Rattle.sc_core.specs.Prelude.{globals_of, in_loop, in_order, init_does, inits_do, is_array, is_inside, is_live}
pub use Rattle.sc_core.specs.Prelude.{is_pointer, is_true, is_unsigned, is_unsigned_op, is_word, kind_step, leads}
pub use Rattle.sc_core.specs.Prelude.{leave, live_cells, living, load, loaded, loop, may_call, meaning, meant}
pub use Rattle.sc_core.specs.Prelude.{meant_step, member_zeros, moved, moved_back, moved_on, next_input, of_bool}
pub use Rattle.sc_core.specs.Prelude.{on_words, part_does, place_at, read_input, repeated, run_in, run_of, run_step}
pub use Rattle.sc_core.specs.Prelude.{run_to, same_place, stmt_step, stopped_at, store, store_at, store_result, stored}
pub use Rattle.sc_core.specs.Prelude.{struct_zeros, target_cells, term_step, test, turn, turn_of, values, variable}
pub use Rattle.sc_core.specs.Prelude.{variable_at, variables, wanted, ways, with_blocks, with_cell, with_words, within}
pub use Rattle.sc_core.specs.Prelude.{word_in, zeros_of}
pub use Rattle.sc_core.specs.declared.cause.Cause.{Cause}
pub use Rattle.sc_core.specs.declared.cause.Cause.TheVariants.{BadPointer, BadType, Dangling, OutOfBounds}
pub use Rattle.sc_core.specs.declared.expr.CallTarget.TheVariants.{Cross, Input, Output, Own}
pub use Rattle.sc_core.specs.declared.expr.TypedExpr.{TypedExpr}
pub use Rattle.sc_core.specs.declared.run.RunEnd.TheVariants.{Blamed, Ended, EventsOut, TurnsOut}
pub use Rattle.sc_core.specs.declared.run.SourceRun.{SourceRun}
pub use Rattle.sc_core.specs.declared.section.TypedGlobal.{TypedGlobal}
pub use Rattle.sc_core.specs.declared.section.TypedLocal.{TypedLocal}
pub use Rattle.sc_core.specs.declared.section.TypedParam.{TypedParam}
pub use Rattle.sc_core.specs.declared.section.TypedSection.{TypedSection}
pub use Rattle.sc_core.specs.declared.section.TypedStruct.{TypedStruct}
pub use Rattle.sc_core.specs.declared.stmt.TypedStmtKind.{TypedStmtKind, TypedStmtKind-F, roll-TypedStmtKind}
pub use Rattle.sc_core.specs.declared.stmt.TypedStmtKind.TheVariants.{rolls-Assign, rolls-AssignCall, rolls-Break}
pub use Rattle.sc_core.specs.declared.stmt.TypedStmtKind.TheVariants.{rolls-Call, rolls-Continue, rolls-Empty}
pub use Rattle.sc_core.specs.declared.stmt.TypedStmtKind.TheVariants.{rolls-For, rolls-Free, rolls-If, rolls-Malloc}
pub use Rattle.sc_core.specs.declared.stmt.TypedStmtKind.TheVariants.{rolls-Return, rolls-ReturnCall}
pub use Rattle.sc_core.specs.declared.stmt.TypedStmtKind.TheVariants.{rolls-ReturnValue, rolls-While}
pub use Rattle.sc_core.specs.declared.value.Cell.{Cell}
pub use Rattle.sc_core.specs.declared.value.Value.TheVariants.{Ptr, Word}
pub use Rattle.sc_core_laws.proofs.Growing.{back_goes, calls_go, done_goes, earlier, follow_goes, prefix_more, stays}
pub use Rattle.sc_core_laws.proofs.Growing.{then_goes, then_then, within_goes}
pub use Rattle.sc_core_laws.specs.Prelude.{GoFrom, Goes, Gone, Never}
pub use Rattle.sc_run_value.specs.Prelude.{here_of}
pub use Rattle.sc_run.specs.Common.{Call, Callee, Event, Frame, Loop, Null, ProgramTree, Ret, RunEnd, TypedStmt, Undef}
pub use Rattle.sc_run.specs.Common.{Value, cleared, given_back}
pub use Rattle.sc_run.specs.Prelude.{Begun, CameTo, Comes, ComesMaking, Doing, EndsAs, EntryAt, FoundAt, Passes}
pub use Rattle.sc_run.specs.Prelude.{Completes, DoneOr, IsCall, Leads, PassesIf, Reaches, ReachesOr, Seen}
pub use Rattle.sc_run.specs.Prelude.{WaitsFirst, call_acts, step_of, unless_done}
pub use Rattle.sc_run.specs.Prelude.{Standing, Stands, Steps, back_from, back_to, back_value, block_acts, block_for}
pub use Rattle.sc_run.specs.Prelude.{bodies, body_acts, calls_in, cell_with, closes, denotations, does_now}
pub use Rattle.sc_run.specs.Prelude.{emitted_call, emitted_return, ended_as, ended_so, entry_from, exit_of, function_in}
pub use Rattle.sc_run.specs.Prelude.{in_body, in_round, kept_by, left_at, left_by, loop_acts, memory_of, next_acts}
pub use Rattle.sc_run.specs.Prelude.{part_acts, result_goes, resume, returned, seen_of, stmt_acts, variable_count}
pub use Rattle.sc_run.specs.Prelude.{way_in, with_exit, with_variables, word_crossing}
pub use Rattle.sc_run.specs.declared.work.Now.{Now}
pub use Rattle.sc_run.specs.declared.work.Now.TheVariants.{Leave, Run}
pub use Rattle.sc_run.specs.declared.work.Step.{Step}
pub use Rattle.sc_run.specs.declared.work.Step.TheVariants.{Go, Stop}
pub use Rattle.sc_run.specs.declared.work.To.{To}
pub use Rattle.sc_run.specs.declared.work.To.TheVariants.{Back, Nowhere, Place}
pub use Rattle.sc_run.specs.declared.work.Work.{Work}
pub use Rattle.sc_run.specs.declared.work.Work.TheVariants.{Again, Body, Caller, First, Rest}
