-- What this crate's contracts, its proofs and the crates above cite, passed on from one place. Declares nothing.
pub use Rattle.sc_base.specs.Prelude.{most_compartments, most_exports, most_height, most_params}
pub use Rattle.sc_core.specs.Calls.{Body, Denotations, Function, Step, back_cross, back_own, begun, blocks_for}
pub use Rattle.sc_core.specs.Calls.{call_cross, call_own, called, calls, crossed, crossing, done, first_word, found}
pub use Rattle.sc_core.specs.Calls.{function, functions_of, is_word, leads, may_call, next_input, option_value}
pub use Rattle.sc_core.specs.Calls.{read_input, run_in, run_step, within, word_back, word_in}
pub use Rattle.sc_core.specs.Combinators.{Break, Calls, Closed, Continue, Does, Exit, FrameChange, Here, IsStop, Left}
pub use Rattle.sc_core.specs.Combinators.{Next, On, Opened, Out, Piece, Reached, Return, Route, State, Stopped, all_do}
pub use Rattle.sc_core.specs.Combinators.{allocated, and_then, choose, computed, elements_allocated, emit_event, follow}
pub use Rattle.sc_core.specs.Combinators.{in_loop, in_order, leave, loop, placed, released, rounds, stored, take, turn}
pub use Rattle.sc_core.specs.Combinators.{turn_of, with_memory}
pub use Rattle.sc_core.specs.Height.{call_height, count_height, expr_height, highest, kind_height, part_height}
pub use Rattle.sc_core.specs.Height.{simple_height, stmt_height, term_height}
pub use Rattle.sc_core.specs.Meaning.{Run, at_brace, base_zeros, body_does, closed, deepest, denotations_of, depth}
pub use Rattle.sc_core.specs.Meaning.{depth_by, depth_in, entry_in, exit_word, first_blocks, first_state, function_of}
pub use Rattle.sc_core.specs.Meaning.{functions_in, global_block, globals_of, init_does, inits_do, main_name, meaning}
pub use Rattle.sc_core.specs.Meaning.{meaning_by, member_zeros, place_named, place_of_export, repeated, run_by, run_of}
pub use Rattle.sc_core.specs.Meaning.{run_to, scripted_by, scripted_depth_by, scripted_meaning, scripted_run_of}
pub use Rattle.sc_core.specs.Meaning.{scripted_wrapped, starred_zeros, struct_zeros, with_words, wrapped, wrapped_depth}
pub use Rattle.sc_core.specs.Meaning.{zeros_of}
pub use Rattle.sc_core.specs.Memory.{Block, Blocks, Memory, allocated_at, bind, cell_of, cells_at, ended, freed}
pub use Rattle.sc_core.specs.Memory.{is_live, live_cells, living, load, loaded, over, span_at, spans_of, store}
pub use Rattle.sc_core.specs.Memory.{variable, with_block, with_blocks, with_cell, without_block}
pub use Rattle.sc_core.specs.Run.{reaches, stopped_at}
pub use Rattle.sc_core.specs.Scripts.{Roles, acts, asks, is_number, performs, roles_in, rows_left, scripted_step}
pub use Rattle.sc_core.specs.Sizes.{bytes_a_node, call_nodes, code_bound, count_nodes, expr_nodes, frame_bound}
pub use Rattle.sc_core.specs.Sizes.{init_nodes, instrs_a_node, kind_nodes, local_nodes, most_code, most_frame, nodes}
pub use Rattle.sc_core.specs.Sizes.{part_nodes, simple_nodes, stmt_nodes, term_nodes, total}
pub use Rattle.sc_core.specs.Tree.{Acts, Meant, Ways, allocate_at, applied, assign, assign_call, at_place, at_pointer}
pub use Rattle.sc_core.specs.Tree.{binary, block_does, call, call_statement, count_ways, evaluated, free_value}
pub use Rattle.sc_core.specs.Tree.{is_unsigned_op, kind_step, literal, meant, meant_step, part_does, simple_does}
pub use Rattle.sc_core.specs.Tree.{stmt_does, stmt_step, store_at, store_result, term_step, test, values, variable_at}
pub use Rattle.sc_core.specs.Tree.{wanted, ways}
pub use Rattle.sc_core.specs.Types.{base_cells, cells_of, is_array, is_pointer, is_unsigned, starred_cells}
pub use Rattle.sc_core.specs.Types.{most_cells, size_in_bytes, struct_cells, target_cells, variables}
pub use Rattle.sc_core.specs.Typing.{Callable, Judged, Scope, Signature, all_go_into, allowed, are_equatable}
pub use Rattle.sc_core.specs.Typing.{are_ordered, args_fit, assign_call_fits, assign_fits, binary_fits, body_fits}
pub use Rattle.sc_core.specs.Typing.{both_ints, call_fits, common, count_fits, decayed, difference_fits, goes_into}
pub use Rattle.sc_core.specs.Typing.{has_member, init_fits, is_address, is_int, is_integer, is_scalar, is_target}
pub use Rattle.sc_core.specs.Typing.{is_type, judged, kind_fits, literal_fits, malloc_fits, member_of, option_goes}
pub use Rattle.sc_core.specs.Typing.{option_signature, part_fits, place_judged, pointer_to, points, proto_signature}
pub use Rattle.sc_core.specs.Typing.{result_goes, result_ty, returned_call_fits, returned_fits, same_base, same_import}
pub use Rattle.sc_core.specs.Typing.{same_pointers, same_ty, scalar_ty, signature_of, simple_fits, starred, stmt_fits}
pub use Rattle.sc_core.specs.Typing.{sum_fits, target, target_signature, term_judged, type_goes, unary_fits}
pub use Rattle.sc_core.specs.Typing.{value_judged, variable_ty}
pub use Rattle.sc_core.specs.Value.{Arith, apart, applied_one, as_word, between, c_arith, c_binary, c_negated}
pub use Rattle.sc_core.specs.Value.{cause_of, count_in, in_elements, is_inside, is_less, is_true, is_zero, moved}
pub use Rattle.sc_core.specs.Value.{moved_back, moved_on, negated_word, number_of, of_bool, on_all_words, on_word}
pub use Rattle.sc_core.specs.Value.{on_words, or_cause, ordered, place_at, same_place, truth, wrapping}
pub use Rattle.sc_core.specs.WellTyped.{IsWellTyped, are_distinct, base_within, callable_in, callable_names, decl_count}
pub use Rattle.sc_core.specs.WellTyped.{export_fits, export_name, export_names, function_fits, global_fits}
pub use Rattle.sc_core.specs.WellTyped.{has_distinct_names, has_few_compartments, has_fitting_sections, has_main}
pub use Rattle.sc_core.specs.WellTyped.{import_fits, import_name, init_height, interface_fits, is_main, is_plain_name}
pub use Rattle.sc_core.specs.WellTyped.{is_well_typed, local_fits, main_fits, main_signature, mains_in, members_fit}
pub use Rattle.sc_core.specs.WellTyped.{most_nodes, params_fit, passed_fits, result_fits}
pub use Rattle.sc_core.specs.WellTyped.{same_results, same_signature, same_types, scope_of, section_fits, sections_fit}
pub use Rattle.sc_core.specs.WellTyped.{starred_within, struct_fits, structs_fit, type_within, variable_fits, words_fit}
