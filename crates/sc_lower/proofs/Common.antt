-- The names that several proofs of this crate cite, passed on from one place. Declares nothing.
pub use Rattle.std.proofs.Common.{Bool, Err, IfOk, List, None, Ok, Option, Result, Some, [], add-one, ap, append_assoc}
pub use Rattle.std.proofs.Common.{arith, bytes_eq, codes, cond, drop, drop-cons, eq-eqb, eqb-true, false, get_or}
pub use Rattle.std.proofs.Common.{if◌then◌else◌, inl, inr, is_some, le-leb, leb-true, length, length-append, lt-ltb}
pub use Rattle.std.proofs.Common.{ltb-false, ltb-true, map, nat_le, nat_lt, not, pos, position, refl, slice_get}
pub use Rattle.std.proofs.Common.{slice_index_or, subst, suc, sym, true, zero, ℕ, ◌%◌, ◌&&◌, ◌*◌, ◌++◌, ◌+◌, ◌-◌, ◌<◌}
pub use Rattle.std.proofs.Common.{◌==◌, ◌^◌, ◌||◌, ◌∙◌, ◌∷◌, ◌≡◌, ◌≤◌, ◌⊎◌}
pub use Rattle.std.proofs.lemmas.Bool.{and_from, false≢true, not-true, or_from, or_left, or_right}
pub use Rattle.std.proofs.lemmas.List.{length-map}
pub use Rattle.std.proofs.lemmas.Option.{slice_get-map, slice_get_read}
pub use Rattle.std.specs.Bool.{beq}
pub use Rattle.std.specs.List.{All, list_all, list_any}
pub use Rattle.std.specs.Option.{option_and_then, option_map, option_map_or}
pub use Rattle.sc_base.proofs.Bools.{and_first, and_rest, implies}
pub use Rattle.sc_base.proofs.Texts.{bytes_eq_self, same_either_way, same_text}
pub use Rattle.sc_base.specs.declared.op.UnaryOp.{UnaryOp}
pub use Rattle.sc_event.specs.Prelude.{comp_at, export_at, imports, is_function, is_input, is_output, takes}
pub use Rattle.sc_event.specs.declared.event.Event.TheVariants.{Call, End, In, Out, Ret}
pub use Rattle.sc_event.specs.declared.interface.Interface.{Interface}
pub use Rattle.sc_event.specs.declared.interface.Proto.{Proto}
pub use Rattle.sc_event.specs.declared.interface.Scalar.{Scalar}
pub use Rattle.sc_event.specs.declared.interface.Scalar.TheVariants.{Int}
pub use Rattle.sc_event.specs.declared.row.Entry.TheVariants.{Export, Main}
pub use Rattle.sc_core.proofs.Induction.{Each, Inside, Under, expr_induction, stmt_induction}
pub use Rattle.sc_core.proofs.Judged.{judged_ty}
pub use Rattle.sc_core.proofs.Layers.{expr_at, layer_of, on_line, stmt_at, term_of, typed}
pub use Rattle.sc_core.proofs.Plans.{Plan, Sheet, Slot, init_of, plan_nodes, plan_nodes_is, program, section}
pub use Rattle.sc_core.proofs.Programs.{global, global_of, int_pointer, ints, lit, local, main_with, param, plan, plus}
pub use Rattle.sc_core.proofs.Programs.{slot}
pub use Rattle.sc_core.proofs.Rows.{by_plan}
pub use Rattle.sc_core.proofs.Shapes.{Amp, Arrow, AssignCallLine, AssignLine, At, BreakLine, CallLine, ContinueLine}
pub use Rattle.sc_core.proofs.Shapes.{Dot, EmptyLine, ForLine, IfLine, Lines, Lit, NoLine, One, ReturnCallLine}
pub use Rattle.sc_core.proofs.Shapes.{ReturnLine, ReturnValueLine, Shape, Star, Two, Var, WhileLine, call_of, expr}
pub use Rattle.sc_core.proofs.Shapes.{lines_are, lines_do, part, stmts, way, way_is}
pub use Rattle.sc_core.specs.Prelude.{Acts, Arith, Blocks, Body, Break, Callable, Calls, Continue, Denotations, Exit}
pub use Rattle.sc_core.specs.Prelude.{Function, Here, IsWellTyped, Judged, Left, Meant, Next, On, Piece, Reached}
pub use Rattle.sc_core.specs.Prelude.{Return, Roles, Route, Scope, Signature, State, Step, Stopped, Ways, acts, all_do}
pub use Rattle.sc_core.specs.Prelude.{all_go_into, allocated, allowed, and_then, applied, applied_one, are_distinct}
pub use Rattle.sc_core.specs.Prelude.{are_equatable, are_ordered, args_fit, asks, assign_call, assign_call_fits}
pub use Rattle.sc_core.specs.Prelude.{assign_fits, at_brace, at_pointer, back_cross, back_own, base_cells, base_within}
pub use Rattle.sc_core.specs.Prelude.{begun, between, binary_fits, bind, block_does, body_does, body_fits, both_ints}
pub use Rattle.sc_core.specs.Prelude.{c_arith, call, call_cross, call_fits, call_nodes, call_own, callable_in, called}
pub use Rattle.sc_core.specs.Prelude.{calls, cells_of, choose, closed, common, computed, count_fits, count_in}
pub use Rattle.sc_core.specs.Prelude.{count_nodes, count_ways, crossed, crossing, decayed, deepest, denotations_of}
pub use Rattle.sc_core.specs.Prelude.{difference_fits, done, elements_allocated, emit_event, entry_in, export_fits}
pub use Rattle.sc_core.specs.Prelude.{expr_nodes, first_blocks, first_state, follow, found, frame_bound, freed}
pub use Rattle.sc_core.specs.Prelude.{function, function_fits, function_of, functions_in, global_fits, globals_of}
pub use Rattle.sc_core.specs.Prelude.{goes_into, has_member, import_fits, import_name, in_loop, in_order, init_does}
pub use Rattle.sc_core.specs.Prelude.{init_fits, init_nodes, inits_do, interface_fits, is_address, is_array, is_int}
pub use Rattle.sc_core.specs.Prelude.{is_integer, is_main, is_number, is_plain_name, is_pointer, is_scalar, is_target}
pub use Rattle.sc_core.specs.Prelude.{is_true, is_type, is_unsigned, is_unsigned_op, is_well_typed, is_word, judged}
pub use Rattle.sc_core.specs.Prelude.{kind_fits, kind_nodes, leads, leave, literal, literal_fits, load, local_fits}
pub use Rattle.sc_core.specs.Prelude.{local_nodes, loop, main_fits, main_name, mains_in, malloc_fits, may_call, meaning}
pub use Rattle.sc_core.specs.Prelude.{meant, meant_step, member_of, members_fit, most_cells, most_compartments}
pub use Rattle.sc_core.specs.Prelude.{most_exports, most_nodes, most_params, moved, moved_back, moved_on, nodes}
pub use Rattle.sc_core.specs.Prelude.{of_bool, on_words, option_goes, option_signature, option_value, part_does}
pub use Rattle.sc_core.specs.Prelude.{part_fits, part_nodes, passed_fits, performs, place_named, place_of_export}
pub use Rattle.sc_core.specs.Prelude.{pointer_to, points, proto_signature, released, result_fits, result_goes}
pub use Rattle.sc_core.specs.Prelude.{result_ty, returned_call_fits, returned_fits, roles_in, rounds, rows_left, run_by}
pub use Rattle.sc_core.specs.Prelude.{run_in, run_of, run_step, same_base, same_import, same_pointers, same_results}
pub use Rattle.sc_core.specs.Prelude.{same_signature, same_ty, same_types, scalar_ty, scope_of, scripted_run_of}
pub use Rattle.sc_core.specs.Prelude.{scripted_step, section_fits, sections_fit, signature_of, simple_does, simple_fits}
pub use Rattle.sc_core.specs.Prelude.{simple_nodes, starred, starred_cells, starred_within, stmt_fits, stmt_nodes}
pub use Rattle.sc_core.specs.Prelude.{stmt_step, stopped_at, store, store_result, stored, struct_cells, struct_fits}
pub use Rattle.sc_core.specs.Prelude.{structs_fit, sum_fits, take, target, target_cells, target_signature, term_judged}
pub use Rattle.sc_core.specs.Prelude.{term_nodes, total, truth, turn, turn_of, type_goes, type_within, unary_fits}
pub use Rattle.sc_core.specs.Prelude.{values, variable_at, variable_fits, variable_ty, variables, wanted, ways}
pub use Rattle.sc_core.specs.Prelude.{with_memory, within, word_back, word_in, wrapping}
pub use Rattle.sc_core.specs.declared.cause.Cause.{Cause}
pub use Rattle.sc_core.specs.declared.cause.Cause.TheVariants.{BadType, NoReturn, Overflow}
pub use Rattle.sc_core.specs.declared.expr.CallTarget.{CallTarget}
pub use Rattle.sc_core.specs.declared.expr.CallTarget.TheVariants.{Cross, Input, Output, Own}
pub use Rattle.sc_core.specs.declared.expr.TypedKind.{TypedKind}
pub use Rattle.sc_core.specs.declared.run.RunEnd.TheVariants.{Blamed, Ended, TurnsOut}
pub use Rattle.sc_core.specs.declared.run.SourceRun.{SourceRun}
pub use Rattle.sc_core.specs.declared.section.TypedGlobal.{TypedGlobal}
pub use Rattle.sc_core.specs.declared.section.TypedParam.{TypedParam}
pub use Rattle.sc_core.specs.declared.stmt.TypedStmtKind.{TypedStmtKind}
pub use Rattle.sc_core.specs.declared.ty.BaseTy.{BaseTy}
pub use Rattle.sc_core.specs.declared.value.Value.{Value}
pub use Rattle.sc_core.specs.declared.value.Value.TheVariants.{Null, Ptr, Word}
pub use Rattle.sc_core.specs.declared.value.Want.{Want}
pub use Rattle.sc_core_laws.proofs.Agreement.{calls_agree, itself, own_agree, performs_agree, run_agree, then_agree}
pub use Rattle.sc_core_laws.specs.Prelude.{BodiesAgree, CallsAgree, DenotationsAgree, FunctionsAgree, Meets}
pub use Rattle.sc_core_laws.specs.Prelude.{PiecesAgree, RunsAgree, piece_without_line, without_line}
pub use Rattle.sc_core_kind_laws.proofs.Bodies.{Signed, signed}
pub use Rattle.sc_core_kind_laws.proofs.Results.{After, following, function_imported, input_imported, output_imported}
pub use Rattle.sc_core_kind_laws.proofs.Results.{reached_good}
pub use Rattle.sc_core_kind_laws.proofs.Sections.{ForSection, Placed, all_at, any_along, for_interface, for_section}
pub use Rattle.sc_core_kind_laws.proofs.Sections.{found_passes, index_map, main_so, mains_so, name_of, named_so}
pub use Rattle.sc_core_kind_laws.proofs.Sections.{own_names_differ, sections_so}
pub use Rattle.sc_core_kind_laws.proofs.Values.{address_fits, either, int_fits, integer_kind, sound, types_length}
pub use Rattle.sc_core_kind_laws.specs.Kinds.{is_of}
pub use Rattle.sc_tac.proofs.Runs.{across_interfaces, fetched, give, int_op, output, word}
pub use Rattle.sc_tac.proofs.Shapes.{Cycle, Done, Fork, Line, rows, rows_are}
pub use Rattle.sc_tac.specs.Prelude.{Ahead, Codes, IsFunction, IsProgram, Reading, Temps, all_assigned_first}
pub use Rattle.sc_tac.specs.Prelude.{are_entered, call_does, calls_exports, calls_imports, calls_own, code_denotations}
pub use Rattle.sc_tac.specs.Prelude.{code_does, code_function, code_functions, code_globals, code_meaning}
pub use Rattle.sc_tac.specs.Prelude.{code_meaning_by, code_run, code_step, code_wrapped, compared, constant_value}
pub use Rattle.sc_tac.specs.Prelude.{count, counts_elements, cross_call_fits, enters_by_words, entry_known}
pub use Rattle.sc_tac.specs.Prelude.{entry_weight, everywhere, exports_entered, function_entered, gets, has_elements}
pub use Rattle.sc_tac.specs.Prelude.{has_none, has_operands, has_words, in_section, is_assigned_first, is_comparison}
pub use Rattle.sc_tac.specs.Prelude.{is_entered, is_machine_word, is_one, known, main_entered, names_own_global}
pub use Rattle.sc_tac.specs.Prelude.{names_own_object, names_own_temps, no_temps, nothing_ahead, numbered, one_or_none}
pub use Rattle.sc_tac.specs.Prelude.{op_does, op_weight, operated, own_call_fits, part_ahead, passes_few, passes_words}
pub use Rattle.sc_tac.specs.Prelude.{read, read_all, reading, reading_step, received, returns_result, row_first}
pub use Rattle.sc_tac.specs.Prelude.{row_fresh, same_entry, scripted_code_run, some_hold, start_of, stmt_does}
pub use Rattle.sc_tac.specs.Prelude.{stmt_weight, stray_break, stray_continue, takes_result, takes_two, weight}
pub use Rattle.sc_tac.specs.Prelude.{weight_step, with_parts, with_temp}
pub use Rattle.sc_tac.specs.declared.function.TacFnTree.{TacFnTree}
pub use Rattle.sc_tac.specs.declared.program.TacSection.{TacSection}
pub use Rattle.sc_tac.specs.declared.stmt.Constant.{Constant}
pub use Rattle.sc_tac.specs.declared.stmt.TacOp.{TacOp}
pub use Rattle.sc_tac.specs.declared.stmt.TacStmt.{fold-roll-TacStmt, map-TacStmt}
unfoldable pub use Rattle.sc_tac.specs.declared.stmt.TacStmt.{roll-TacStmt}
pub use Rattle.sc_lower.specs.Common.{BinaryOp, Const, Entry, Global, GlobalPlace, If, Interfaces, Load, Local}
pub use Rattle.sc_lower.specs.Common.{ObjectPlace, Op, Param, ProgramTree, TacStmt, TacStmt-F, Ty, TypedCall, TypedExpr}
pub use Rattle.sc_lower.specs.Common.{TypedFunction, TypedKind-F, TypedLocal, TypedSection, TypedSimple}
pub use Rattle.sc_lower.specs.Common.{TypedSimpleKind, TypedStmt, TypedStmtKind-F, TypedStruct, VarRef, fold-TacStmt}
pub use Rattle.sc_lower.specs.Prelude.{AreFunctions, Forms, IsLowerable, KeepsBranches, KeepsMeaning}
pub use Rattle.sc_lower.specs.Prelude.{KeepsRules, Low, Lowered, Lows, Many, Part, Parts, after, allocate_at}
pub use Rattle.sc_lower.specs.Prelude.{allocation, and_code, assign, at_place, between_op, beyond, binary, binary_code}
pub use Rattle.sc_lower.specs.Prelude.{block_code, body_code, both, call_beyond, call_branches, call_code, call_for}
pub use Rattle.sc_lower.specs.Prelude.{call_statement, constant_of, count_beyond, count_branches, count_code}
pub use Rattle.sc_lower.specs.Prelude.{cycle, entry_of, export_called, exports_of, expr_beyond, expr_branches, first_of}
pub use Rattle.sc_lower.specs.Prelude.{fork, forms, fragment_of, free_value, from_first, from_one, from_two, ifs}
pub use Rattle.sc_lower.specs.Prelude.{ifs_step, in_turn, init_beyond, init_branches, init_code, inits_code, just}
pub use Rattle.sc_lower.specs.Prelude.{kind_beyond, kind_branches, kind_step, loaded, local_beyond, local_branches}
pub use Rattle.sc_lower.specs.Prelude.{lone, lowered, lowered_function, lowered_program, lowered_section}
pub use Rattle.sc_lower.specs.Prelude.{lowered_sections, lowered_step, many, member, move_op, not_op, op_branches}
pub use Rattle.sc_lower.specs.Prelude.{or_code, part_beyond, part_branches, part_code, place_code, replaced}
pub use Rattle.sc_lower.specs.Prelude.{return_value, scalar_in, scalar_of, simple_beyond, simple_branches, simple_code}
pub use Rattle.sc_lower.specs.Prelude.{size_of, stmt_beyond, stmt_branches, stmt_code, stmt_ifs, store_at, term_beyond}
pub use Rattle.sc_lower.specs.Prelude.{term_branches, term_step, test, truth_code, unary_op, values_of, variable_beyond}
