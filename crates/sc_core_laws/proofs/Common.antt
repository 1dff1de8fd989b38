-- The names that several proofs of this crate cite, passed on from one place. Declares nothing.
pub use Rattle.std.proofs.Common.{Bool, Err, List, None, Ok, Option, Result, Some, [], ap, append-nil, append_assoc}
pub use Rattle.std.proofs.Common.{ap₂, arith, bytes_eq, cond, drop, eq-eqb, eqb-true, false, filter, if◌then◌else◌, inl}
pub use Rattle.std.proofs.Common.{inr, int_lt, is_some, le-leb, leb-false, leb-true, length, length-append, lt-ltb, map}
pub use Rattle.std.proofs.Common.{nat_le, nat_lt, ne_eqb, not, pos, refl, slice_get, slice_index_or, subst, suc, sym}
pub use Rattle.std.proofs.Common.{take-append-drop, take_all, true, zero, ℕ, ℤ, ⊎_elim, ◌%◌, ◌&&◌, ◌*ℤ◌, ◌*◌, ◌++◌, ◌+◌}
pub use Rattle.std.proofs.Common.{◌-◌, ◌/◌, ◌<◌, ◌==◌, ◌^◌, ◌||◌, ◌∙◌, ◌∷◌, ◌≡◌, ◌≤◌, ◌⊎◌}
pub use Rattle.std.proofs.lemmas.Bool.{and_from, and_parts, both_ways, cases_eq, false≢true, lt-leb}
pub use Rattle.std.proofs.lemmas.List.{length-map, take-append-le}
pub use Rattle.std.specs.List.{list_all, position_or_len}
pub use Rattle.sc_base.proofs.Lists.{drop_next, take_prefix}
pub use Rattle.sc_base.specs.Prelude.{IsPrefix}
pub use Rattle.sc_base.specs.declared.op.BinaryOp.{BinaryOp}
pub use Rattle.sc_event.specs.Prelude.{Standing, action_of, at_start, count_of, export_at, imports, is_allowed, is_end}
pub use Rattle.sc_event.specs.Prelude.{is_function, is_legal_from, is_output, legal, may_perform, part, performer}
pub use Rattle.sc_event.specs.Prelude.{rows_from, stands_after, stands_after_all, takes}
pub use Rattle.sc_event.specs.declared.event.Event.TheVariants.{Call, End, In, Out, Ret}
pub use Rattle.sc_event.specs.declared.interface.Interfaces.{Interfaces}
pub use Rattle.sc_event.specs.declared.interface.Proto.{Proto}
pub use Rattle.sc_event.specs.declared.row.Action.{Action}
pub use Rattle.sc_event.specs.declared.row.Entry.TheVariants.{Export, Main}
pub use Rattle.sc_event.specs.declared.row.Row.{Row}
pub use Rattle.sc_core.proofs.Induction.{Each, Inside, Under, everywhere, expr_induction, stmt_induction}
pub use Rattle.sc_core.proofs.Keeping.{Kept, Property, then_kept}
pub use Rattle.sc_core.proofs.Layers.{expr_at, layer_of, on_line, stmt_at, term_of, typed}
pub use Rattle.sc_core.specs.Prelude.{Acts, Arith, Blocks, Body, Break, Calls, Closed, Continue, Denotations, Does}
pub use Rattle.sc_core.specs.Prelude.{Exit, FrameChange, Function, Here, IsStop, Left, Meant, Memory, Next, On, Opened}
pub use Rattle.sc_core.specs.Prelude.{Piece, Reached, Return, Roles, Route, Run, State, Step, Stopped, Ways, acts}
pub use Rattle.sc_core.specs.Prelude.{all_do, and_then, applied, applied_one, as_word, asks, assign, at_brace, at_place}
pub use Rattle.sc_core.specs.Prelude.{at_pointer, back_cross, back_own, begun, binary, bind, block_does, blocks_for}
pub use Rattle.sc_core.specs.Prelude.{body_does, c_arith, c_binary, c_negated, call, call_cross, call_own, called}
pub use Rattle.sc_core.specs.Prelude.{calls, cause_of, cells_of, choose, closed, computed, crossed, crossing, deepest}
pub use Rattle.sc_core.specs.Prelude.{denotations_of, depth_in, done, emit_event, ended, entry_in, evaluated, exit_word}
pub use Rattle.sc_core.specs.Prelude.{expr_nodes, first_blocks, first_state, first_word, follow, found, frame_bound}
pub use Rattle.sc_core.specs.Prelude.{function, function_of, functions_in, globals_of, in_loop, in_order, init_does}
pub use Rattle.sc_core.specs.Prelude.{inits_do, is_number, is_pointer, is_unsigned, is_word, kind_nodes, kind_step}
pub use Rattle.sc_core.specs.Prelude.{leads, leave, local_nodes, loop, main_name, may_call, meant, meant_step, moved}
pub use Rattle.sc_core.specs.Prelude.{negated_word, next_input, nodes, on_all_words, on_words, option_value, or_cause}
pub use Rattle.sc_core.specs.Prelude.{part_does, part_nodes, performs, place_named, place_of_export, reaches}
pub use Rattle.sc_core.specs.Prelude.{read_input, roles_in, rounds, rows_left, run_by, run_in, run_of, run_step, run_to}
pub use Rattle.sc_core.specs.Prelude.{scripted_step, simple_does, stmt_does, stmt_nodes, stmt_step, stopped_at, store}
pub use Rattle.sc_core.specs.Prelude.{store_at, store_result, stored, take, term_step, test, total, turn, turn_of}
pub use Rattle.sc_core.specs.Prelude.{values, variable_at, variables, ways, with_blocks, with_memory, within, word_in}
pub use Rattle.sc_core.specs.Prelude.{wrapping}
pub use Rattle.sc_core.specs.declared.cause.Cause.TheVariants.{BadType, NoReturn, OutOfBounds}
pub use Rattle.sc_core.specs.declared.expr.CallTarget.TheVariants.{Cross, Input, Output, Own}
pub use Rattle.sc_core.specs.declared.expr.TypedExpr.{TypedExpr}
pub use Rattle.sc_core.specs.declared.expr.VarRef.TheVariants.{Local}
pub use Rattle.sc_core.specs.declared.section.TypedFunction.{TypedFunction}
pub use Rattle.sc_core.specs.declared.section.TypedLocal.{TypedLocal}
pub use Rattle.sc_core.specs.declared.section.TypedSection.{TypedSection}
pub use Rattle.sc_core.specs.declared.section.TypedStruct.{TypedStruct}
pub use Rattle.sc_core.specs.declared.stmt.TypedSimple.{TypedSimple}
pub use Rattle.sc_core.specs.declared.stmt.TypedSimpleKind.{TypedSimpleKind}
pub use Rattle.sc_core.specs.declared.stmt.TypedStmt.{TypedStmt, TypedStmt-F, fold-TypedStmt}
pub use Rattle.sc_core.specs.declared.stmt.TypedStmtKind.{TypedStmtKind, TypedStmtKind-F, fold-TypedStmtKind}
pub use Rattle.sc_core.specs.declared.stmt.TypedStmtKind.{map-TypedStmtKind, roll-TypedStmtKind}
pub use Rattle.sc_core.specs.declared.value.Value.TheVariants.{Word}
pub use Rattle.sc_core.specs.declared.value.Want.{Want}
pub use Rattle.sc_core_laws.specs.Common.{Blamed, CallTarget, Cause, Ended, Entry, Event, EventsOut, ProgramTree}
pub use Rattle.sc_core_laws.specs.Common.{RunEnd, SourceRun, TurnsOut, Value}
pub use Rattle.sc_core_laws.specs.Prelude.{AgreeingRunAlike, AgreesInDepth, AgreesUntilBlame, Alike, AllBefore, AllFrom}
pub use Rattle.sc_core_laws.specs.Prelude.{AreFresh, Asks, BlameIsPassed, BlameRemains, BlamedAreThere, Blames}
pub use Rattle.sc_core_laws.specs.Prelude.{BodiesAgree, CallsAgree, ChainExists, ChainIsLeast, ChainRises, ChainsRise}
pub use Rattle.sc_core_laws.specs.Prelude.{ChangesAreWithin, DeepestIsReached, DenotationsAgree, DenotationsMatch}
pub use Rattle.sc_core_laws.specs.Prelude.{DepthsAreKept, Doing, EmitsNoEnd, EmitsWithMore, EmptySetIsMeaning}
pub use Rattle.sc_core_laws.specs.Prelude.{ExportsLead, ExtendedByMore, Extends, FixedPoint, FunctionsAgree}
pub use Rattle.sc_core_laws.specs.Prelude.{FunctionsMatch, Gives, GoFrom, Goes, Gone, Grown, Halts, HasChain}
pub use Rattle.sc_core_laws.specs.Prelude.{HasFixedPoint, HoldsOfSets, HasAllBlamed, InteractionTree, IsArithmetic}
pub use Rattle.sc_core_laws.specs.Prelude.{IsBlamedOutside, IsBlameChain, IsFinal, IsFixed, IsRising, IsSteady}
pub use Rattle.sc_core_laws.specs.Prelude.{IsSubset}
pub use Rattle.sc_core_laws.specs.Prelude.{KeepsBlames, KeepsDepths, Lasts, LeastIsChain, LeavesDepths, BlameLink}
pub use Rattle.sc_core_laws.specs.Prelude.{Match}
pub use Rattle.sc_core_laws.specs.Prelude.{MeaningGoesOn, Meets, MoreGoesOn, MoreMayPerform, Never}
pub use Rattle.sc_core_laws.specs.Prelude.{NobodyWhoPerformsIsBlamed, Obedient, OnlyGoesOn, OtherLinesAgree}
pub use Rattle.sc_core_laws.specs.Prelude.{PassesBlame, PassesBlames, PiecesAgree, Plays, ProgramsObey, Reads}
pub use Rattle.sc_core_laws.specs.Prelude.{RunsAgree, RunsUntilBlame, CompSet, Spends, SpendsAlong, SpendsTurns}
pub use Rattle.sc_core_laws.specs.Prelude.{StopsSo}
pub use Rattle.sc_core_laws.specs.Prelude.{StopsSpent, Stores, TracesAreLegal, TurnsOutMeansTurns, WrappedAgrees}
pub use Rattle.sc_core_laws.specs.Prelude.{WrappingAgrees, blamed, blamed_run, denotations_run, depth_after, has_no_end}
pub use Rattle.sc_core_laws.specs.Prelude.{last, longer, main_call, nobody, now, performed, performed_by}
pub use Rattle.sc_core_laws.specs.Prelude.{piece_without_line, played, roles_run, same, same_run, scripted_call}
pub use Rattle.sc_core_laws.specs.Prelude.{stack_depth, turnless, with}
