-- The names that several proofs of this crate cite, passed on from one place. Declares nothing.
pub use Rattle.std.proofs.Common.{All, Bool, IfErr, IfOk, IsSome, IsTrue, List, None, Option, Some, [], ap, append-nil}
pub use Rattle.std.proofs.Common.{append_assoc, ap₂, arith, bytes_eq, cond, drop, false, flat_map, get_or}
pub use Rattle.std.proofs.Common.{if◌then◌else◌, inl, inr, is_some, leb-true, length, length-append, lt-ltb, ltb-false}
pub use Rattle.std.proofs.Common.{ltb-true, map, nat_le, nat_lt, not, option_and_then, pos, refl, slice_get, subst, suc}
pub use Rattle.std.proofs.Common.{sym, take, true, zero, ℕ, ℤ, ⊎_elim, ◌&&◌, ◌*◌, ◌++◌, ◌+◌, ◌-ℤ◌, ◌<◌, ◌==◌, ◌^◌, ◌||◌}
pub use Rattle.std.proofs.Common.{◌∙◌, ◌∷◌, ◌≡◌, ◌≢◌, ◌≤◌, ◌⊎◌}
pub use Rattle.std.proofs.lemmas.List.{length-map, length-replicate, map-append}
pub use Rattle.std.proofs.lemmas.Option.{same_Some, slice_get-map, slice_get_within}
pub use Rattle.std.specs.List.{count_by, list_all, list_any}
pub use Rattle.std.specs.Option.{option_map, option_map_or}
pub use Rattle.sc_base.proofs.Bools.{and_first, and_rest}
pub use Rattle.sc_base.proofs.Lists.{all_at, all_by, take-step}
pub use Rattle.sc_event.specs.Prelude.{Standing, at_start, awaits, comp_at, export_at, fits_result, imports}
pub use Rattle.sc_event.specs.Prelude.{is_function, is_input, is_legal_from, is_output, legal, may_perform, may_return}
pub use Rattle.sc_event.specs.Prelude.{performer, stands_after, takes}
pub use Rattle.sc_event.specs.declared.event.Event.{Event}
pub use Rattle.sc_event.specs.declared.interface.Interface.{Interface}
pub use Rattle.sc_event.specs.declared.interface.Interfaces.{Interfaces}
pub use Rattle.sc_event.specs.declared.interface.Proto.{Proto}
pub use Rattle.sc_event.specs.declared.row.Entry.{Entry}
pub use Rattle.sc_event.specs.declared.row.Entry.TheVariants.{Export, Main}
pub use Rattle.sc_core.specs.Prelude.{Arith, Block, Here, IsStop, IsWellTyped, Piece, Reached, Roles, Run, State}
pub use Rattle.sc_core.specs.Prelude.{Stopped, are_distinct, c_arith, callable_in, cells_of, crossing, decl_count}
pub use Rattle.sc_core.specs.Prelude.{entry_in, first_blocks, frame_bound, function_fits, global_block, global_fits}
pub use Rattle.sc_core.specs.Prelude.{globals_of, import_name, interface_fits, local_fits, local_nodes, main_fits}
pub use Rattle.sc_core.specs.Prelude.{main_name, main_signature, most_cells, most_nodes, most_params, nodes}
pub use Rattle.sc_core.specs.Prelude.{option_value, params_fit, passed_fits, place_named, result_fits, run_of}
pub use Rattle.sc_core.specs.Prelude.{same_results, same_signature, same_types, scope_of, scripted_by, scripted_run_of}
pub use Rattle.sc_core.specs.Prelude.{section_fits, signature_of, struct_zeros, structs_fit, total, variable_fits}
pub use Rattle.sc_core.specs.Prelude.{variables, wrapping}
pub use Rattle.sc_core.specs.declared.section.TypedFunction.{TypedFunction}
pub use Rattle.sc_core.specs.declared.section.TypedStruct.{TypedStruct}
pub use Rattle.sc_core_laws.specs.Prelude.{AgreesInDepth, CompSet, piece_without_line, same, same_run}
pub use Rattle.sc_core_kind_laws.proofs.Sections.{found_passes, main_so, named_so, own_names_differ}
pub use Rattle.rv_code.specs.declared.instr.Instr.{Instr}
pub use Rattle.sc_image.specs.Prelude.{IsWellFormed, IsWord, image_import, image_interface, image_interfaces, machine}
pub use Rattle.sc_image.specs.Prelude.{most_globals, image_proto, start_memory, stretch}
pub use Rattle.sc_tac.proofs.Matching.{wrapped_code_agrees}
pub use Rattle.sc_tac.specs.Prelude.{IsAssignment, IsFunction, IsProgram, branch_step, calls_exports, calls_own}
pub use Rattle.sc_tac.specs.Prelude.{code_globals, code_run, cross_call_fits, everywhere, frame_of, function_entered}
pub use Rattle.sc_tac.specs.Prelude.{function_points, interval_of, intervals_of, names_own_global, own_call_fits}
pub use Rattle.sc_tac.specs.Prelude.{scripted_code_run}
pub use Rattle.sc_tac.specs.declared.machine_code.CodeTree.{CodeTree}
pub use Rattle.sc_tac.specs.declared.program.TacTree.{TacTree}
pub use Rattle.sc_tac.specs.declared.stmt.TacStmt.{TacStmt, TacStmt-F, fold-TacStmt, map-TacStmt}
pub use Rattle.sc_lower.proofs.Entries.{first_at}
pub use Rattle.sc_lower.proofs.Programs.{keeps_rules}
pub use Rattle.sc_lower.proofs.Whole.{keeps_meaning}
pub use Rattle.sc_lower.specs.Prelude.{body_code, branches, ifs, ifs_step, lowered_function, lowered_program}
pub use Rattle.sc_lower.specs.Prelude.{lowered_section, lowered_sections}
pub use Rattle.sc_alloc.specs.Prelude.{assigned}
pub use Rattle.sc_emit_select.specs.Prelude.{Addresses, code_of, linked, linked_from, low_of_target, lower_part}
pub use Rattle.sc_emit_select.specs.Prelude.{refers_only, relocations_after, target_at, upper_part, with_low}
pub use Rattle.sc_emit_select.specs.Prelude.{with_target}
pub use Rattle.sc_linker.proofs.Beginnings.{all_done, all_more}
pub use Rattle.sc_linker.proofs.Comps.{Fits, comps_length, exports_are, few_so, fits_or_none, number_below, of_section}
pub use Rattle.sc_linker.proofs.Comps.{part_at, part_is}
pub use Rattle.sc_linker.proofs.Exports.{Named, export_named, export_part, name_of, names_apart, part_first}
pub use Rattle.sc_linker.proofs.Places.{all_from, distinct_at, total_upto}
pub use Rattle.sc_linker.specs.Prelude.{AreNamed, EntriesStand, FunctionsStand, GlobalsAreWords, GlobalsStand}
pub use Rattle.sc_linker.specs.Prelude.{ImportsStand, IsLinkable, IsStart, IsWhole, RefersInside, StandFrom, StandsAt}
pub use Rattle.sc_linker.specs.Prelude.{addresses_at, cell_word, cells, codes_at, codes_in, comp_code, comp_part}
pub use Rattle.sc_linker.specs.Prelude.{entry_address, entry_jump, entry_jumps, exports_at, exports_in, import_part}
pub use Rattle.sc_linker.specs.Prelude.{instructions, linked_codes, linked_image, section_at, section_or_none}
pub use Rattle.sc_emit.specs.Prelude.{IsCodeAddress, IsEmitted, is_branch, is_ebreak, names_only}
pub use Rattle.sc_emit_run_laws.proofs.Emits.{outcomes_simulate, shorter_first, unstopped}
pub use Rattle.sc_emit_run_laws.specs.Prelude.{EntersBy, GivesResults, GlobalStands, HasCode, IsBlamed, IsBuilt}
pub use Rattle.sc_emit_run_laws.specs.Prelude.{IsLinked, KeepsTo, SimulatesRun, bodies, functions_in, functions_or_none}
pub use Rattle.sc_compile.specs.Common.{CodeTooLarge, CompileFault, ImageParts, ProgramTree, TacFnTree, TacSection}
pub use Rattle.sc_compile.specs.Common.{TypedGlobal, TypedSection}
pub use Rattle.sc_compile.specs.Prelude.{AreEmitted, BeginAsWords, BeginsAsWords, EachEmits, EmitsAll, EmitsOrIsBlamed}
pub use Rattle.sc_compile.specs.Prelude.{CanBeCompiled, EmitsFrom, EmitsSo, ForwardSimulation, HasNoTests, HasParts}
pub use Rattle.sc_compile.specs.Prelude.{IsRobust}
pub use Rattle.sc_compile.specs.Prelude.{IsCompiled, IsCounted, IsCountedFunction, above, all_codes, built_image}
pub use Rattle.sc_compile.specs.Prelude.{cells_in, code_from, code_size, data_size, faults_from, first, found_in}
pub use Rattle.sc_compile.specs.Prelude.{function_tac, program_tac, section_tac}
pub use Rattle.sc_compile.specs.Prelude.{function_code, large_code, large_data, large_frame, large_frames}
pub use Rattle.sc_core.specs.Prelude.{most_code, most_frame}
pub use Rattle.sc_compile.specs.Prelude.{program_nodes, section_codes, test_word, too_large}
