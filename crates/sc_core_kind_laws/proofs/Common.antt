-- The names that several proofs of this crate cite, passed on from one place. Declares nothing.
pub use Rattle.std.proofs.Common.{Bool, Err, List, None, Ok, Option, Result, Some, [], ap, bytes_eq, codes, cond}
pub use Rattle.std.proofs.Common.{eq-eqb, eqb-true, false, if◌then◌else◌, int_div, int_rem, is_some, length, map}
pub use Rattle.std.proofs.Common.{nat_le, negsuc, not, pos, position, refl, slice_get, slice_index_or, subst, suc, sym}
pub use Rattle.std.proofs.Common.{true, zero, ℕ, ℤ, ◌&&◌, ◌++◌, ◌-◌, ◌==◌, ◌^◌, ◌||◌, ◌∙◌, ◌∷◌, ◌≡◌}
pub use Rattle.std.proofs.lemmas.Bool.{and_from, false≢true, or_right}
pub use Rattle.std.specs.List.{list_all, list_any}
pub use Rattle.std.specs.Option.{option_and_then, option_map, option_map_or}
pub use Rattle.sc_base.proofs.Bools.{and_first, and_rest}
pub use Rattle.sc_event.specs.declared.interface.Interface.{Interface}
pub use Rattle.sc_event.specs.declared.interface.Interfaces.{Interfaces}
pub use Rattle.sc_core.proofs.Induction.{Each, Inside, Under, expr_induction, stmt_induction}
pub use Rattle.sc_core.proofs.Judged.{judged_ty}
pub use Rattle.sc_core.proofs.Layers.{expr_at, layer_of, on_line, stmt_at, term_of, typed}
pub use Rattle.sc_core.specs.Prelude.{Acts, Arith, Blocks, Body, Break, Callable, Calls, Continue, Denotations, Exit}
pub use Rattle.sc_core.specs.Prelude.{Function, Here, Judged, Left, Meant, Next, On, Out, Piece, Reached, Return, Roles}
pub use Rattle.sc_core.specs.Prelude.{Route, Scope, Signature, State, Stopped, Ways, all_do, all_go_into, allowed}
pub use Rattle.sc_core.specs.Prelude.{and_then, apart, applied, applied_one, are_distinct, are_equatable, are_ordered}
pub use Rattle.sc_core.specs.Prelude.{args_fit, as_word, assign, assign_call, assign_call_fits, at_brace, at_place}
pub use Rattle.sc_core.specs.Prelude.{at_pointer, back_own, begun, between, binary, binary_fits, bind, block_does}
pub use Rattle.sc_core.specs.Prelude.{body_does, body_fits, both_ints, call, call_cross, call_fits, call_own}
pub use Rattle.sc_core.specs.Prelude.{call_statement, callable_in, called, calls, cells_at, choose, closed, common}
pub use Rattle.sc_core.specs.Prelude.{computed, crossing, decayed, denotations_of, difference_fits, done, entry_in}
pub use Rattle.sc_core.specs.Prelude.{evaluated, export_fits, follow, found, function, function_fits, function_of}
pub use Rattle.sc_core.specs.Prelude.{functions_in, global_fits, goes_into, import_name, in_elements, in_loop, in_order}
pub use Rattle.sc_core.specs.Prelude.{init_does, inits_do, interface_fits, is_address, is_array, is_int, is_integer}
pub use Rattle.sc_core.specs.Prelude.{is_live, is_plain_name, is_pointer, is_scalar, is_target, is_true, is_type}
pub use Rattle.sc_core.specs.Prelude.{is_unsigned, is_unsigned_op, is_well_typed, is_word, is_zero, judged, kind_fits}
pub use Rattle.sc_core.specs.Prelude.{kind_step, leads, leave, literal, load, loaded, local_fits, loop, main_fits}
pub use Rattle.sc_core.specs.Prelude.{main_name, mains_in, may_call, meant, meant_step, most_compartments, most_params}
pub use Rattle.sc_core.specs.Prelude.{moved, moved_back, moved_on, of_bool, on_word, on_words, option_goes}
pub use Rattle.sc_core.specs.Prelude.{option_signature, option_value, ordered, part_does, part_fits, passed_fits}
pub use Rattle.sc_core.specs.Prelude.{performs, place_at, place_of_export, pointer_to, points, proto_signature}
pub use Rattle.sc_core.specs.Prelude.{result_fits, result_goes, result_ty, returned_call_fits, returned_fits, rounds}
pub use Rattle.sc_core.specs.Prelude.{rows_left, run_step, same_import, same_place, same_pointers, same_results}
pub use Rattle.sc_core.specs.Prelude.{same_signature, same_ty, same_types, scalar_ty, scope_of, scripted_step}
pub use Rattle.sc_core.specs.Prelude.{section_fits, sections_fit, signature_of, simple_does, simple_fits, stmt_does}
pub use Rattle.sc_core.specs.Prelude.{stmt_fits, stmt_step, store, store_at, store_result, stored, structs_fit}
pub use Rattle.sc_core.specs.Prelude.{sum_fits, take, target_cells, target_signature, term_judged, term_step, test}
pub use Rattle.sc_core.specs.Prelude.{turn, type_goes, unary_fits, values, variable_at, wanted, ways, with_memory}
pub use Rattle.sc_core.specs.Prelude.{word_back}
pub use Rattle.sc_core.specs.declared.cause.Cause.{Cause}
pub use Rattle.sc_core.specs.declared.cause.Cause.TheVariants.{BadPointer, BadType}
pub use Rattle.sc_core.specs.declared.expr.CallTarget.{CallTarget}
pub use Rattle.sc_core.specs.declared.expr.TypedExpr.{TypedExpr}
pub use Rattle.sc_core.specs.declared.program.ProgramTree.{ProgramTree}
pub use Rattle.sc_core.specs.declared.section.TypedFunction.{TypedFunction}
pub use Rattle.sc_core.specs.declared.section.TypedSection.{TypedSection}
pub use Rattle.sc_core.specs.declared.section.TypedStruct.{TypedStruct}
pub use Rattle.sc_core.specs.declared.ty.Ty.{Ty}
pub use Rattle.sc_core.specs.declared.value.Value.{Value}
pub use Rattle.sc_core.specs.declared.value.Value.TheVariants.{Null, Ptr, Word}
pub use Rattle.sc_core_kind_laws.specs.Kinds.{ResultsHaveKinds, ValuesHaveKinds, bodies_of, function_at, has_kind}
pub use Rattle.sc_core_kind_laws.specs.Kinds.{have_kinds, is_of, returns_kind, section_functions}
