-- The names that several proofs of this crate cite, passed on from one place. Declares nothing.
pub use Rattle.std.proofs.Common.{All, Bool, Err, IsSome, List, None, Ok, Option, Result, Some, [], ap, ap₂, arith}
pub use Rattle.std.proofs.Common.{bytes_eq, drop, drop-drop, eq-eqb, eqb-true, false, filter, if◌then◌else◌, inl, inr}
pub use Rattle.std.proofs.Common.{is_some, leb-false, length, map, nat_le, ne_eqb, neg_ℤ, negsuc, not, pos, refl}
pub use Rattle.std.proofs.Common.{slice_get, slice_index_or, subst, suc, sym, true, zero, ℕ, ⊎_elim, ◌&&◌, ◌++◌, ◌+◌}
pub use Rattle.std.proofs.Common.{◌-◌, ◌<◌, ◌==◌, ◌^◌, ◌||◌, ◌∙◌, ◌∷◌, ◌≡◌, ◌≤◌, ◌⊎◌}
pub use Rattle.std.proofs.lemmas.Bool.{and_from, and_parts, both_ways, cases_eq, false≢true, or_right}
pub use Rattle.std.specs.List.{AllByRecursion, list_all, list_any}
pub use Rattle.std.specs.Option.{option_map, option_map_or}
pub use Rattle.sc_base.proofs.Bools.{and_first, and_rest}
pub use Rattle.sc_base.specs.Prelude.{IsPrefix, IsWord}
pub use Rattle.sc_event.specs.Prelude.{Activation, Standing, action_of, at_start, count_of, export_at, imports}
pub use Rattle.sc_event.specs.Prelude.{is_allowed, is_function, is_input, is_legal_from, is_output, legal, may_perform}
pub use Rattle.sc_event.specs.Prelude.{part, performer, resumed, rows_from, stands_after, takes}
pub use Rattle.sc_event.specs.declared.event.Event.{Event}
pub use Rattle.sc_event.specs.declared.event.Event.TheVariants.{Call, End, In, Out, Ret}
pub use Rattle.sc_event.specs.declared.interface.Interfaces.{Interfaces}
pub use Rattle.sc_event.specs.declared.interface.Proto.{Proto}
pub use Rattle.sc_event.specs.declared.interface.Scalar.{Scalar}
pub use Rattle.sc_event.specs.declared.row.Action.{Action}
pub use Rattle.sc_event.specs.declared.row.Entry.{Entry}
pub use Rattle.sc_event.specs.declared.row.Entry.TheVariants.{Export, Main}
pub use Rattle.sc_event.specs.declared.row.Row.{Row}
pub use Rattle.sc_core.proofs.Shapes.{AssignLine, CallLine, IfLine, Lines, Lit, NoLine, One, ReturnLine}
pub use Rattle.sc_core.proofs.Shapes.{ReturnValueLine, Shape, Two, Var, WhileLine, expr, lines_are, lines_do, stmts}
pub use Rattle.sc_core.proofs.Shapes.{way}
pub use Rattle.sc_core.specs.Prelude.{Acts, Arith, Block, Blocks, Body, Calls, Denotations, FrameChange, Function, Here}
pub use Rattle.sc_core.specs.Prelude.{IsWellTyped, Left, Memory, Next, Piece, Reached, Return, Roles, State, Step}
pub use Rattle.sc_core.specs.Prelude.{Stopped, Ways, acts, all_do, and_then, are_distinct, as_word, assign, back_cross}
pub use Rattle.sc_core.specs.Prelude.{back_own, begun, block_does, blocks_for, c_arith, call_cross, call_own}
pub use Rattle.sc_core.specs.Prelude.{call_statement, called, calls, choose, closed, computed, crossed, crossing}
pub use Rattle.sc_core.specs.Prelude.{denotations_of, done, emit_event, ended, entry_in, evaluated, exit_word}
pub use Rattle.sc_core.specs.Prelude.{first_blocks, first_state, first_word, follow, found, function, function_of}
pub use Rattle.sc_core.specs.Prelude.{functions_in, functions_of, global_block, globals_of, in_order, inits_do, is_main}
pub use Rattle.sc_core.specs.Prelude.{is_number, is_plain_name, is_word, leads, leave, main_fits, main_name}
pub use Rattle.sc_core.specs.Prelude.{main_signature, may_call, next_input, of_bool, option_value, or_cause, performs}
pub use Rattle.sc_core.specs.Prelude.{place_named, place_of_export, proto_signature, read_input, roles_in, rounds}
pub use Rattle.sc_core.specs.Prelude.{rows_left, run_by, run_in, run_step, run_to, same_signature, scripted_meaning}
pub use Rattle.sc_core.specs.Prelude.{scripted_step, signature_of, stmt_does, stopped_at, store, struct_zeros, test}
pub use Rattle.sc_core.specs.Prelude.{turn, turn_of, values, variable, variable_at, with_blocks, with_memory, within}
pub use Rattle.sc_core.specs.Prelude.{word_in}
pub use Rattle.sc_core.specs.declared.cause.Cause.{Cause}
pub use Rattle.sc_core.specs.declared.expr.CallTarget.{CallTarget}
pub use Rattle.sc_core.specs.declared.expr.CallTarget.TheVariants.{Cross, Input, Output, Own}
pub use Rattle.sc_core.specs.declared.expr.TypedKind.TheVariants.{rolls-Binary, rolls-Literal, rolls-Unary}
pub use Rattle.sc_core.specs.declared.expr.TypedKind.TheVariants.{rolls-Variable}
pub use Rattle.sc_core.specs.declared.program.ProgramTree.{ProgramTree}
pub use Rattle.sc_core.specs.declared.run.RunEnd.TheVariants.{Blamed, Ended, TurnsOut}
pub use Rattle.sc_core.specs.declared.section.TypedFunction.{TypedFunction}
pub use Rattle.sc_core.specs.declared.section.TypedSection.{TypedSection}
pub use Rattle.sc_core.specs.declared.section.TypedStruct.{TypedStruct}
pub use Rattle.sc_core.specs.declared.stmt.TypedStmt.{TypedStmt}
pub use Rattle.sc_core.specs.declared.value.Value.{Value}
pub use Rattle.sc_core.specs.declared.value.Value.TheVariants.{Word}
pub use Rattle.sc_core_laws.proofs.Growing.{BodyGoes, back_goes, calls_go, run_goes, within_goes}
pub use Rattle.sc_core_laws.proofs.Matching.{related_denotations, run_goes_on, scripted_goes_on}
pub use Rattle.sc_core_laws.proofs.Related.{Kept, KeptAt, RelatedCalls, RelatedDenotations, RelatedFunctions}
pub use Rattle.sc_core_laws.proofs.Related.{related_functions}
pub use Rattle.sc_core_laws.proofs.Rows.{counts_its_own}
pub use Rattle.sc_core_laws.specs.Prelude.{Goes, Gone, Grown, IsFixed, Meets, Never, Obedient, now}
pub use Rattle.sc_back_replay_laws.specs.Replay.{HasReplaced, HasWords, IsCounter, IsRecomposed, IsReplay, Performs}
pub use Rattle.sc_back_replay_laws.specs.Replay.{PerformsRows, TextsPerform, main_proto, proto_of}
pub use Rattle.sc_back_replay_laws.specs.Texts.{IsPerforming, action_kind, calls_out, counter, counter_is, ends}
pub use Rattle.sc_back_replay_laws.specs.Texts.{int_expr, least_int, literal, minus, or_int, params_at, row_kind, skips}
pub use Rattle.sc_back_replay_laws.specs.Texts.{stmt_at, waits, word_expr, word_exprs}
