-- The names that several proofs of this crate cite, passed on from one place. Declares nothing.
pub use Rattle.std.proofs.Common.{Bool, Err, IfOk, List, None, Ok, OnOk, Option, Result, Some, [], add-one, ap}
pub use Rattle.std.proofs.Common.{append-nil, append_assoc, ap₂, arith, bytes_eq, codes, cond, drop, drop-cons, false}
pub use Rattle.std.proofs.Common.{eq-eqb, eqb-true, flat_map, get_or, if◌then◌else◌, inl, inr, is_some, le-leb}
pub use Rattle.std.proofs.Common.{leb-true, length, lt-ltb, ltb-true, map, max, min, nat_eq, nat_le, nat_lt, not}
pub use Rattle.std.proofs.Common.{position, refl, rules, slice_get, slice_range, subst, suc, sym, take, true, zero, ℕ}
pub use Rattle.std.proofs.Common.{◌&&◌, ◌*◌, ◌++◌, ◌+◌, ◌-◌, ◌<◌, ◌==◌, ◌||◌, ◌∙◌, ◌∷◌, ◌≡◌, ◌≤◌, ◌⊎◌}
pub use Rattle.std.proofs.lemmas.Bool.{and_from, cases_Bool, or_from, or_left, or_right}
pub use Rattle.std.proofs.lemmas.Bool.Decides.{Decides-eqb, nat_tests}
pub use Rattle.std.proofs.lemmas.List.{drop_all, length-map, map-append, take_more}
pub use Rattle.std.proofs.lemmas.List.Elements.{filter_map-append}
pub use Rattle.std.proofs.lemmas.List.Folds.{concat-append, list_any-append}
pub use Rattle.std.proofs.lemmas.Map.Keys.{any_passes_from_place}
pub use Rattle.std.proofs.lemmas.Option.{same_Some, slice_get-map}
pub use Rattle.std.proofs.lemmas.Result.{err_from_is_err_and}
pub use Rattle.std.specs.List.{All, AllZip, concat, filter_map, list_all, list_any}
pub use Rattle.std.specs.Option.{option_and_then, option_map, option_map_or}
pub use Rattle.sc_base.proofs.Bools.{and_first, and_rest, implied}
pub use Rattle.sc_base.proofs.Lists.{drop-step, get_after, get_prefix, map_twice, position-cons}
pub use Rattle.sc_base.proofs.Texts.{same_text}
pub use Rattle.sc_base.specs.Prelude.{is_numbered, most_compartments, most_exports, most_height, number_by_name}
pub use Rattle.sc_event.specs.Prelude.{comp_at, export_at}
pub use Rattle.sc_event.specs.declared.interface.Interface.{Interface}
pub use Rattle.sc_lex.specs.declared.fault.TextFault.TheVariants.{Refused}
pub use Rattle.sc_ast.proofs.Induction.{Each, Inside, Under, expr_induction, stmt_induction}
pub use Rattle.sc_ast.specs.Prelude.{head_of, limited, param_of, section_height}
pub use Rattle.sc_ast.specs.declared.expr.CallTree.{CallTree}
pub use Rattle.sc_ast.specs.declared.expr.ExprTree.{ExprTree, ExprTree-F, map-ExprTree}
pub use Rattle.sc_ast.specs.declared.section.Decl.{Decl}
pub use Rattle.sc_ast.specs.declared.section.Decl.TheVariants.{Function, Global, Proto, Struct}
pub use Rattle.sc_ast.specs.declared.section.ExportLine.{ExportLine}
pub use Rattle.sc_ast.specs.declared.section.FunctionParam.{FunctionParam}
pub use Rattle.sc_ast.specs.declared.section.HeadTree.{HeadTree}
pub use Rattle.sc_ast.specs.declared.section.ImportLine.{ImportLine}
pub use Rattle.sc_ast.specs.declared.section.ParamTree.{ParamTree}
pub use Rattle.sc_ast.specs.declared.section.StructTree.{StructTree}
pub use Rattle.sc_ast.specs.declared.stmt.SimpleKind.{SimpleKind}
pub use Rattle.sc_ast.specs.declared.stmt.SimpleTree.{SimpleTree}
pub use Rattle.sc_ast.specs.declared.stmt.StmtKind.{StmtKind, StmtKind-F}
pub use Rattle.sc_ast.specs.declared.stmt.StmtTree.{StmtTree}
pub use Rattle.sc_ast.specs.declared.types.BaseTree.{BaseTree}
pub use Rattle.sc_ast.specs.declared.types.TypeName.{TypeName}
pub use Rattle.sc_ast.specs.declared.types.TypeTree.{TypeTree}
pub use Rattle.sc_parse_read.proofs.Steps.{as_many, heading_fails}
pub use Rattle.sc_parse_read.specs.Reading.{IsRead, Reads, TextPart, part_of}
pub use Rattle.sc_types_scope.specs.Prelude.{Known, among, base_known, base_scalar, call_known, declared, defines_main}
pub use Rattle.sc_types_scope.specs.Prelude.{earlier, environment, export_names, expr_known, function_in}
pub use Rattle.sc_types_scope.specs.Prelude.{function_named, function_names, function_decls, global_in, global_names}
pub use Rattle.sc_types_scope.specs.Prelude.{globals_in, head_in, heads_in, import_names, import_of, interface_of}
pub use Rattle.sc_types_scope.specs.Prelude.{interfaces_from, interfaces_of, is_callable, is_environment, known_in}
pub use Rattle.sc_types_scope.specs.Prelude.{line_of_text, main_from, main_name, member_known, names_broken}
pub use Rattle.sc_types_scope.specs.Prelude.{number_or_zero, offered, offering, offers, param_names, pointed_known}
pub use Rattle.sc_types_scope.specs.Prelude.{promised, proto_names, proto_of, refused_at, result_known, scalar_of}
pub use Rattle.sc_types_scope.specs.Prelude.{malloc_known, simple_known, struct_in, struct_names, structs_in, unless}
pub use Rattle.sc_types_scope.specs.Prelude.{with_lines}
unfoldable pub use Rattle.sc_types_scope.specs.Prelude.{noted_all}
pub use Rattle.sc_types_interfaces.specs.Prelude.{HasFewExports, HasFewParams, IsWithinCounts, agree, agrees_as}
pub use Rattle.sc_types_interfaces.specs.Prelude.{agrees_there, agrees_with, crosses, decls_from, exports_from}
pub use Rattle.sc_types_interfaces.specs.Prelude.{gives_int, head_crosses, head_fits, imported_agrees, imports_from}
pub use Rattle.sc_types_interfaces.specs.Prelude.{input_name, interface_broken, is_input_head, is_int_type, is_offered}
pub use Rattle.sc_types_interfaces.specs.Prelude.{is_output_head}
pub use Rattle.sc_types_interfaces.specs.Prelude.{is_plain, main_holds, output_name, result_crosses, same_params}
pub use Rattle.sc_types_interfaces.specs.Prelude.{same_result, same_type, takes_int, takes_nothing}
pub use Rattle.sc_core.specs.Prelude.{Callable, IsWellTyped, Scope, Signature, allowed, are_distinct, assign_call_fits}
pub use Rattle.sc_core.specs.Prelude.{base_cells, base_within, body_fits, call_fits, call_height, callable_in, cells_of}
pub use Rattle.sc_core.specs.Prelude.{count_fits, count_height, is_target, is_type, malloc_fits, pointer_to, same_ty}
pub use Rattle.sc_core.specs.Prelude.{target, target_cells}
pub use Rattle.sc_core.specs.Prelude.{decayed, decl_count, export_fits, export_name, expr_height, function_fits}
pub use Rattle.sc_core.specs.Prelude.{global_fits, highest, import_fits, import_name, init_height, interface_fits}
pub use Rattle.sc_core.specs.Prelude.{is_array, is_main, is_pointer, is_well_typed, judged, kind_fits, kind_height}
pub use Rattle.sc_core.specs.Prelude.{local_fits, main_fits, mains_in, members_fit, most_cells, most_nodes, most_params}
pub use Rattle.sc_core.specs.Prelude.{nodes, option_signature, part_fits, part_height, passed_fits, proto_signature}
pub use Rattle.sc_core.specs.Prelude.{result_fits, result_goes, result_ty, returned_call_fits, same_base, same_import}
pub use Rattle.sc_core.specs.Prelude.{same_results, same_signature, same_types, scalar_ty, scope_of, section_fits}
pub use Rattle.sc_core.specs.Prelude.{sections_fit, signature_of, simple_fits, simple_height, starred, starred_cells}
pub use Rattle.sc_core.specs.Prelude.{starred_within, stmt_fits, stmt_height, struct_cells, struct_fits, structs_fit}
pub use Rattle.sc_core.specs.Prelude.{target_signature, term_height, total, truth, type_within, variable_fits}
pub use Rattle.sc_core.specs.Prelude.{words_fit}
pub use Rattle.sc_core.specs.declared.section.TypedParam.{TypedParam}
pub use Rattle.sc_core.specs.declared.section.TypedSection.{TypedSection}
pub use Rattle.sc_core.specs.declared.stmt.TypedStmt.{TypedStmt}
pub use Rattle.sc_core.specs.declared.stmt.TypedStmtKind.{TypedStmtKind, TypedStmtKind-F}
unfoldable pub use Rattle.sc_core.specs.declared.stmt.TypedStmtKind.{roll-TypedStmtKind}
pub use Rattle.sc_core.specs.declared.ty.BaseTy.{BaseTy}
pub use Rattle.sc_core.specs.declared.ty.Ty.{Ty}
pub use Rattle.sc_types_elab_expr.specs.Prelude.{Callees, Found, Visible, beside, variable_named, going_to}
pub use Rattle.sc_types_elab_expr.specs.Prelude.{is_zero_literal, expr_typed}
pub use Rattle.sc_types_elab_expr.specs.Prelude.{target_or, typed, variable_typed}
pub use Rattle.sc_types_elab_stmt.specs.Prelude.{assign_call_holds, call_holds, going_to_all, going_to_some}
pub use Rattle.sc_types_elab_stmt.specs.Prelude.{kind_type_lines, kind_typed, part_type_lines, return_call_holds}
pub use Rattle.sc_types_elab_stmt.specs.Prelude.{simple_holds, element_cells, int_pointer, malloc_holds}
pub use Rattle.sc_types_elab_stmt.specs.Prelude.{stmt_type_lines, stmt_typed, typed_call, typed_count, typed_freed}
pub use Rattle.sc_types_elab_stmt.specs.Prelude.{typed_simple, typed_simple_kind, typed_stmt, typed_value}
pub use Rattle.sc_types_elab.specs.Prelude.{base_of, callees_of, cells_from, decl_type_lines, end_of_member, head_named}
pub use Rattle.sc_types_elab.specs.Prelude.{import_named, import_target, imported_target, init_holds, init_words}
pub use Rattle.sc_types_elab.specs.Prelude.{is_sized, local_holds, typed_locals_from, members_from, or_first, param_ty}
pub use Rattle.sc_types_elab.specs.Prelude.{program_of, result_of, scope_in, sections_from, signature_by, struct_lines}
pub use Rattle.sc_types_elab.specs.Prelude.{structs, tags, type_of, type_of_name, type_with, typed_function}
pub use Rattle.sc_types_elab.specs.Prelude.{typed_global, typed_init, typed_local, typed_param, typed_section}
pub use Rattle.sc_types_elab.specs.Prelude.{typed_struct, types_broken, visible_in, visible_of, word_of_const}
unfoldable pub use Rattle.sc_types_elab.specs.Prelude.{typed_locals, typed_structs}
pub use Rattle.sc_types.specs.Common.{FunctionTree, LocalTree, ProgramTree, Section, SectionTree}
pub use Rattle.sc_types.specs.Prelude.{Accepts, AreLow, AreStarts, Fails, FailsRules, FailsTyped, IsKept, IsSource}
pub use Rattle.sc_types.specs.Prelude.{IsTyped, call_nodes, counts_broken, decls_nodes, expr_nodes, expr_step}
pub use Rattle.sc_types.specs.Prelude.{first_start, function_count_lines, function_nodes, global_count_lines}
pub use Rattle.sc_types.specs.Prelude.{head_lines}
pub use Rattle.sc_types.specs.Prelude.{is_small, line_beyond, count_lines_from, local_lines, local_nodes, option_nodes}
pub use Rattle.sc_types.specs.Prelude.{part_nodes, parts_from, section_count_lines, simple_nodes, source_of, start_of}
pub use Rattle.sc_types.specs.Prelude.{stmt_nodes, stmts_nodes, structs_from, type_in}
