-- The names that several proofs of this crate cite, passed on from one place. Declares nothing.
pub use Rattle.std.proofs.Common.{All, Bool, IsTrue, List, None, Option, Some, [], ap, append-nil, append_assoc, ap₂}
pub use Rattle.std.proofs.Common.{arith, bytes_eq, codes, cond, drop, eq-eqb, eqb-true, false, filter, if◌then◌else◌}
pub use Rattle.std.proofs.Common.{inl, inr, is_some, le-leb, leb-false, leb-true, length, length-append, lt-ltb, map}
pub use Rattle.std.proofs.Common.{nat_le, nat_lt, not, position, refl, rules, slice_get, subst, suc, sym, true, zero, ℕ}
pub use Rattle.std.proofs.Common.{◌&&◌, ◌*◌, ◌++◌, ◌+◌, ◌-◌, ◌<◌, ◌==◌, ◌^◌, ◌||◌, ◌∙◌, ◌∷◌, ◌≡◌, ◌≤◌, ◌⊎◌}
pub use Rattle.std.proofs.lemmas.Bool.{and_from, and_parts, eqb-false, false≢true, or_from, or_left, or_parts, or_right}
pub use Rattle.std.proofs.lemmas.Bool.Decides.{Decides-eqb}
pub use Rattle.std.proofs.lemmas.Fmt.{decimal_injective, digits_decimal}
pub use Rattle.std.proofs.lemmas.List.{length-map, map-append}
pub use Rattle.std.proofs.lemmas.List.Elements.{All-from_recursion, filter_map-append, recursion_from_All}
pub use Rattle.std.proofs.lemmas.Option.{none-some, same_Some}
pub use Rattle.std.specs.Fmt.{decimal}
pub use Rattle.std.specs.List.{AllByRecursion, concat, cons_option, filter_map, list_all, list_any}
pub use Rattle.std.specs.Option.{option_and_then, option_map, option_map_or}
pub use Rattle.sc_base.proofs.Bools.{and_first, and_rest, implied, implies}
pub use Rattle.sc_base.proofs.Lists.{get_after, map_twice, position-cons}
pub use Rattle.sc_base.proofs.Texts.{bytes_eq_self, same_either_way, same_text}
pub use Rattle.sc_base.specs.Prelude.{IsWord, IsWordOrNone, Text, all_hold, is_name, most_compartments, most_exports}
pub use Rattle.sc_base.specs.Prelude.{number_by_name}
pub use Rattle.sc_base.specs.declared.op.BinaryOp.TheVariants.{Equal, Sub}
pub use Rattle.sc_base.specs.declared.op.UnaryOp.TheVariants.{Minus}
pub use Rattle.sc_event.specs.Prelude.{Activation, Standing, action_of, at_start, awaits, export_at, fits_result}
pub use Rattle.sc_event.specs.Prelude.{imports, is_allowed, is_function, is_legal_from, is_outermost, legal}
pub use Rattle.sc_event.specs.Prelude.{may_perform, may_return, part, performer, resumed, rows_from, stands_after}
pub use Rattle.sc_event.specs.Prelude.{takes}
pub use Rattle.sc_event.specs.declared.event.Event.TheVariants.{Call, End, In, Out, Ret}
pub use Rattle.sc_event.specs.declared.interface.Import.{Import}
pub use Rattle.sc_event.specs.declared.interface.Proto.{Proto}
pub use Rattle.sc_event.specs.declared.interface.Scalar.{Scalar}
pub use Rattle.sc_event.specs.declared.interface.Scalar.TheVariants.{Int, Unsigned}
pub use Rattle.sc_event.specs.declared.row.Action.{Action}
pub use Rattle.sc_event.specs.declared.row.Entry.{Entry}
pub use Rattle.sc_event.specs.declared.row.Entry.TheVariants.{Export, Main}
pub use Rattle.sc_ast.specs.Prelude.{SameButLines, head_of, is_ident, kind_step, lineless_decl, lineless_export}
pub use Rattle.sc_ast.specs.Prelude.{lineless_function, lineless_head, lineless_import, lineless_kind, lineless_local}
pub use Rattle.sc_ast.specs.Prelude.{lineless_option, lineless_stmt, lineless_stmts, param_of, stmt_step}
pub use Rattle.sc_ast.specs.declared.expr.CallTree.{CallTree}
pub use Rattle.sc_ast.specs.declared.expr.ExprTree.{ExprTree}
pub use Rattle.sc_ast.specs.declared.expr.ExprTree.TheVariants.{Binary, Unary, Variable}
pub use Rattle.sc_ast.specs.declared.section.Decl.{Decl}
pub use Rattle.sc_ast.specs.declared.section.Decl.TheVariants.{Function, Global, Struct}
pub use Rattle.sc_ast.specs.declared.section.ExportLine.{ExportLine}
pub use Rattle.sc_ast.specs.declared.section.FunctionParam.{FunctionParam}
pub use Rattle.sc_ast.specs.declared.section.FunctionTree.{FunctionTree}
pub use Rattle.sc_ast.specs.declared.section.GlobalTree.{GlobalTree}
pub use Rattle.sc_ast.specs.declared.section.HeadTree.{HeadTree}
pub use Rattle.sc_ast.specs.declared.section.ImportLine.{ImportLine}
pub use Rattle.sc_ast.specs.declared.section.ParamTree.{ParamTree}
pub use Rattle.sc_ast.specs.declared.section.StructTree.{StructTree}
pub use Rattle.sc_ast.specs.declared.stmt.StmtKind.{StmtKind, StmtKind-F, fold-roll-StmtKind, out-StmtKind}
pub use Rattle.sc_ast.specs.declared.stmt.StmtKind.{out-roll-StmtKind, roll-StmtKind, roll-out-StmtKind}
pub use Rattle.sc_ast.specs.declared.stmt.StmtTree.{StmtTree}
pub use Rattle.sc_types_scope.specs.Prelude.{Known, among, are_distinct, base_known, base_scalar, body_lines}
pub use Rattle.sc_types_scope.specs.Prelude.{call_known, declared, defines_main, environment, export_names, expr_known}
pub use Rattle.sc_types_scope.specs.Prelude.{function_named, function_names, function_decls, global_known, globals_in}
pub use Rattle.sc_types_scope.specs.Prelude.{head_in, head_of_known, heads_in, import_names, import_of, interface_of}
pub use Rattle.sc_types_scope.specs.Prelude.{interfaces_from, interfaces_of, is_callable, is_environment, is_new}
pub use Rattle.sc_types_scope.specs.Prelude.{line_of_text, main_from, main_name, number_or_zero, offered, offering}
pub use Rattle.sc_types_scope.specs.Prelude.{offers, promised, proto_known, proto_names, protos_in, result_known}
pub use Rattle.sc_types_scope.specs.Prelude.{scalar_of, stmt_name_lines, struct_names, structs_in, unless}
pub use Rattle.sc_types_interfaces.proofs.Allowing.{agree_left, agree_symm}
pub use Rattle.sc_types_interfaces.specs.Prelude.{agree, agrees_as, agrees_there, agrees_with, crosses, decls_from}
pub use Rattle.sc_types_interfaces.specs.Prelude.{environment_offers, export_holds, exports_from, head_crosses}
pub use Rattle.sc_types_interfaces.specs.Prelude.{head_holds, import_fits, import_holds, imported_agrees, imports_from}
pub use Rattle.sc_types_interfaces.specs.Prelude.{input_name, interface_broken, is_input_head, is_main_head, is_offered}
pub use Rattle.sc_types_interfaces.specs.Prelude.{is_output_head, is_plain, interface_lines_from, main_holds, name_fits}
pub use Rattle.sc_types_interfaces.specs.Prelude.{name_holds}
pub use Rattle.sc_types_interfaces.specs.Prelude.{output_name, result_crosses, same_named_base, same_params}
pub use Rattle.sc_types_interfaces.specs.Prelude.{same_result}
pub use Rattle.sc_types_interfaces.specs.Prelude.{same_type, section_interface_lines}
pub use Rattle.sc_core.specs.Prelude.{Scope, all_go_into, args_fit, assign_fits, expr_nodes, goes_into, is_scalar}
pub use Rattle.sc_core.specs.Prelude.{judged, local_nodes, most_nodes, most_params, nodes, place_judged}
pub use Rattle.sc_core.specs.Prelude.{proto_signature, result_ty, scalar_ty, stmt_nodes, total, value_judged}
pub use Rattle.sc_core.specs.declared.expr.TypedExpr.{TypedExpr}
pub use Rattle.sc_core.specs.declared.expr.VarRef.TheVariants.{Param}
pub use Rattle.sc_core.specs.declared.section.TypedFunction.{TypedFunction}
pub use Rattle.sc_core.specs.declared.section.TypedParam.{TypedParam}
pub use Rattle.sc_core.specs.declared.stmt.TypedStmt.{TypedStmt}
pub use Rattle.sc_core.specs.declared.stmt.TypedStmtKind.{TypedStmtKind}
pub use Rattle.sc_core.specs.declared.ty.Ty.{Ty}
pub use Rattle.sc_types_elab_expr.specs.Prelude.{Callees, Visible, variable_named, variable_in, going_to, or_else}
pub use Rattle.sc_types_elab_expr.specs.Prelude.{target_or, typed}
pub use Rattle.sc_types_elab_stmt.specs.Prelude.{assign_holds, call_holds, cond_holds, going_to_all, params_called}
pub use Rattle.sc_types_elab_stmt.specs.Prelude.{return_value_holds, typed_call, typed_stmt}
pub use Rattle.sc_types_elab.specs.Prelude.{callees_of, decl_type_lines, global_variable, head_named, import_named}
pub use Rattle.sc_types_elab.specs.Prelude.{import_target, imported_target, or_first, param_ty, program_of, result_of}
pub use Rattle.sc_types_elab.specs.Prelude.{scope_in, sections_from, signature_by, structs, type_of, type_of_name}
pub use Rattle.sc_types_elab.specs.Prelude.{typed_function, typed_global, typed_param, typed_section, visible_of}
pub use Rattle.sc_types.proofs.Calls.{FoundBy, Offering, comp_is, export_is, find_offering, found_by}
pub use Rattle.sc_types.proofs.Facts.{DeclFacts, ExportFacts, Fresh, ImportFacts, InterfaceFacts, fresh_distinct}
pub use Rattle.sc_types.proofs.Lookups.{Each, FoundFunction, back_empty, each_at, each_empty, is_at_most, map_empty}
pub use Rattle.sc_types.proofs.Lookups.{none_some, prefix_empty, rule_holds, some_item}
pub use Rattle.sc_types.proofs.Sections.{agrees, both_distinct, crossing, g, none_beyond, promised_name}
pub use Rattle.sc_types.specs.Prelude.{IsTyped, counts_broken, function_count_lines, global_count_lines, head_lines}
pub use Rattle.sc_types.specs.Prelude.{line_beyond}
pub use Rattle.sc_types.specs.Prelude.{line_of_some, param_small, section_nodes, structs_from}
pub use Rattle.sc_back.specs.Prelude.{AllBecome, AreNumbered, Becomes, IsCalled, IsImported, IsSpoken, action_kind}
pub use Rattle.sc_back.specs.Prelude.{all_functions, back_tree, base_tree, body_tree, call_kind, counter_name}
pub use Rattle.sc_back.specs.Prelude.{export_line, function_params, function_tree, function_trees, imported}
pub use Rattle.sc_back.specs.Prelude.{input_proto, is_of, kept, literal, main_proto, output_proto, owner_name}
pub use Rattle.sc_back.specs.Prelude.{param_name, proto_head, proto_params, replaced, return_kind, row_kind, type_name}
pub use Rattle.sc_back.specs.Prelude.{unlined, value_tree, value_trees}
pub use Rattle.sc_back_replay_laws.specs.Replay.{HasReplaced, Performs}
pub use Rattle.sc_back_replay_laws.specs.Texts.{IsPerforming, calls_out, counter, counter_is, ends, int_expr, least_int}
pub use Rattle.sc_back_replay_laws.specs.Texts.{minus, or_int, performs, skips, stmt_at, waits, word_expr, word_exprs}
pub use Rattle.sc_back_performer_laws.specs.Common.{Event, HasWords, Interface, Interfaces, IsRecomposed, PerformsRows}
pub use Rattle.sc_back_performer_laws.specs.Common.{Row, SectionTree, proto_of}
pub use Rattle.sc_back_performer_laws.specs.Laws.{CountsHold, LegalRowsFit, NamesHold, RowsPerform, TypesHold}
pub use Rattle.sc_back_performer_laws.specs.Performer.{FitsRow, IsImportedAs, IsPerformer, IsUsable, MayDo, all_of}
pub use Rattle.sc_back_performer_laws.specs.Performer.{defined, names_of, used}
