-- The names that several proofs of this crate cite, passed on from one place. Declares nothing.
pub use Rattle.std.proofs.Common.{Bool, List, None, Option, Some, [], ap, append-nil, append_assoc, ap₂, arith}
pub use Rattle.std.proofs.Common.{bytes_eq, codes, cond, decimal, div-add-mod', drop, eq-eqb, eqb-true, false, filter}
pub use Rattle.std.proofs.Common.{flat_map, get_or, if◌then◌else◌, inl, inr, is_some, le-leb, leb-true, length}
pub use Rattle.std.proofs.Common.{length-append, lt-ltb, map, nat_eq, nat_le, nat_lt, ne_eqb, not, refl, rules, subst}
pub use Rattle.std.proofs.Common.{suc, sym, take, true, zero, ℕ, ◌%◌, ◌&&◌, ◌*◌, ◌++◌, ◌+◌, ◌/◌, ◌<◌, ◌==◌, ◌^◌, ◌||◌}
pub use Rattle.std.proofs.Common.{◌∙◌, ◌∷◌, ◌≡◌, ◌≤◌, ◌⊎◌}
pub use Rattle.std.proofs.lemmas.Bool.{and_from, and_parts, cases_lt, false≢true, or_left, or_right}
pub use Rattle.std.proofs.lemmas.Fmt.{decimal_by_steps, decimal_injective, length-decimal-le}
pub use Rattle.std.proofs.lemmas.Grind.{flat_map-append}
pub use Rattle.std.proofs.lemmas.List.{length-map, map-append}
unfoldable pub use Rattle.std.specs.Fmt.{digits}
pub use Rattle.std.specs.List.{AllByRecursion, AllZip, concat, list_all, list_any}
pub use Rattle.sc_base.proofs.Texts.{bytes_eq_self, same_text}
pub use Rattle.sc_base.specs.Prelude.{all_hold, is_digit, is_name_byte, is_nondigit, reserved_words}
pub use Rattle.sc_base.specs.declared.op.BinaryOp.TheVariants.{Add, BitAnd, Less}
pub use Rattle.sc_ast.specs.Prelude.{Number, Piece, SameButLines, blank, block_words, decl_height, decls_height}
pub use Rattle.sc_ast.specs.Prelude.{expr_height, expr_words, first_words, fits, head_of, head_words, heading_words}
pub use Rattle.sc_ast.specs.Prelude.{indent, is_ident, is_place, layouts, line_of, lineless_decl, lineless_export}
pub use Rattle.sc_ast.specs.Prelude.{lineless_function, lineless_head, lineless_import, lineless_kind, lineless_local}
pub use Rattle.sc_ast.specs.Prelude.{lineless_option, lineless_simple, lineless_stmt, lineless_stmts, lines_at}
pub use Rattle.sc_ast.specs.Prelude.{literal_text, local_line, locals_height, newline, piece_text, place_words}
pub use Rattle.sc_ast.specs.Prelude.{return_words, stmt_height, stmt_layout, stmts_height, text_of, word}
pub use Rattle.sc_ast.specs.declared.expr.CallTree.{CallTree}
pub use Rattle.sc_ast.specs.declared.expr.ExprTree.{ExprTree}
pub use Rattle.sc_ast.specs.declared.expr.ExprTree.TheVariants.{Binary, Variable}
pub use Rattle.sc_ast.specs.declared.section.Decl.{Decl}
pub use Rattle.sc_ast.specs.declared.section.ExportLine.{ExportLine}
pub use Rattle.sc_ast.specs.declared.section.FunctionTree.{FunctionTree}
pub use Rattle.sc_ast.specs.declared.section.GlobalTree.{GlobalTree}
pub use Rattle.sc_ast.specs.declared.section.HeadTree.{HeadTree}
pub use Rattle.sc_ast.specs.declared.section.ImportLine.{ImportLine}
pub use Rattle.sc_ast.specs.declared.section.SectionTree.{SectionTree}
pub use Rattle.sc_ast.specs.declared.section.StructTree.{StructTree}
pub use Rattle.sc_ast.specs.declared.stmt.SimpleTree.{SimpleTree}
pub use Rattle.sc_ast.specs.declared.stmt.StmtKind.{StmtKind, out-StmtKind}
pub use Rattle.sc_ast.specs.declared.stmt.StmtKind.TheVariants.{Assign, AssignCall, Call, For, ReturnValue}
pub use Rattle.sc_ast.specs.declared.stmt.StmtTree.{StmtTree}
pub use Rattle.sc_parse.specs.Prelude.{SpellsDecl, SpellsStmtKind, first_line}
pub use Rattle.sc_parse_print_laws.proofs.Reading.{Alike, AllAlike, Reading, fixed, line_symbols, part, reads, written}
pub use Rattle.sc_parse_print_laws.proofs.Spacing.{at_level, gap, line_end, lone, next, none, tidy_append, tidy_at}
pub use Rattle.sc_parse_print_laws.proofs.Stmts.{Lines, Part, all_at, everywhere, for_with, same_line}
pub use Rattle.sc_parse_print_laws.proofs.TreeSpacing.{Free, each_tidy, expr_tidy, head_tidy, local_tidy, simple_tidy}
pub use Rattle.sc_parse_print_laws.proofs.TreeSpacing.{stmt_holds, stmts_tidy}
pub use Rattle.sc_parse_print_laws.proofs.Whole.{decl_symbols, dense_tidy, exports_lined, imports_lined, section_with}
pub use Rattle.sc_parse_print_laws.specs.Prelude.{are_kept, dense_decl, is_kept, is_kept_decl, is_kept_stmt}
pub use Rattle.sc_parse_print_laws.specs.Prelude.{kept_export, kept_head, kept_import, kept_local, kept_option}
pub use Rattle.sc_parse_print_laws.specs.Prelude.{kept_param}
pub use Rattle.sc_types_scope.specs.Prelude.{Known, Text, among, body_lines, call_known, declared, defines_main}
pub use Rattle.sc_types_scope.specs.Prelude.{export_names, expr_known, function_named, function_names, function_decls}
pub use Rattle.sc_types_scope.specs.Prelude.{globals_in, heads_in, is_callable, is_environment, is_new, line_of_text}
pub use Rattle.sc_types_scope.specs.Prelude.{names_broken, offering, offers, proto_names, protos_in, struct_names}
pub use Rattle.sc_types_scope.specs.Prelude.{structs_in, unless}
pub use Rattle.sc_types_interfaces.specs.Prelude.{agree, agrees_as, agrees_there, agrees_with, decls_from, export_holds}
pub use Rattle.sc_types_interfaces.specs.Prelude.{exports_from, head_holds, import_fits, import_holds, imported_agrees}
pub use Rattle.sc_types_interfaces.specs.Prelude.{imports_from, input_name, interface_broken, is_input_head}
pub use Rattle.sc_types_interfaces.specs.Prelude.{is_main_head}
pub use Rattle.sc_types_interfaces.specs.Prelude.{is_offered, is_output_head, is_plain, main_holds, output_name}
pub use Rattle.sc_core.specs.Prelude.{Scope, Signature, args_fit, assign_fits, cells_of, frame_bound, goes_into}
pub use Rattle.sc_core.specs.Prelude.{is_scalar, is_target, judged, most_nodes, nodes, place_judged, result_goes, total}
pub use Rattle.sc_core.specs.Prelude.{value_judged, variables}
pub use Rattle.sc_core.specs.declared.expr.TypedExpr.{TypedExpr}
pub use Rattle.sc_core.specs.declared.expr.VarRef.TheVariants.{Global, Local, Param}
pub use Rattle.sc_types_elab_expr.specs.Prelude.{Callees, Visible, going_to, typed}
pub use Rattle.sc_types_elab_stmt.specs.Prelude.{assign_call_holds, assign_holds, call_holds, cond_holds, going_to_all}
pub use Rattle.sc_types_elab_stmt.specs.Prelude.{params_called, part_type_lines, return_value_holds, stmt_type_lines}
pub use Rattle.sc_types_elab.specs.Prelude.{callees_of, decl_type_lines, global_variable, head_named, or_first}
pub use Rattle.sc_types_elab.specs.Prelude.{program_of}
pub use Rattle.sc_types_elab.specs.Prelude.{scope_in, section_type_lines, sections_from, signature_by, structs, tags}
pub use Rattle.sc_types_elab.specs.Prelude.{type_of, typed_function, typed_global, typed_section, types_broken}
pub use Rattle.sc_types_elab.specs.Prelude.{visible_of}
pub use Rattle.sc_types.proofs.TypedNodes.{function-nodes, section-nodes}
pub use Rattle.sc_types.specs.Prelude.{counts_broken, function_count_lines, function_nodes, global_count_lines}
pub use Rattle.sc_types.specs.Prelude.{head_lines}
pub use Rattle.sc_types.specs.Prelude.{count_lines_from, section_nodes, stmt_nodes, structs_from}
pub use Rattle.sc_back_reread_laws.proofs.Headless.{Closed, Closing, Headless, after_closing, closed_append}
pub use Rattle.sc_back_reread_laws.proofs.Headless.{export_headless, headed, headed_text, import_headless, name_plain}
pub use Rattle.sc_back_reread_laws.proofs.Headless.{plain, plain_append, plain_headless, plain_then, tidy_plain}
pub use Rattle.sc_back_reread_laws.proofs.Nesting.{Even, Nested, even_binary, even_equal, even_ident, even_keyword}
pub use Rattle.sc_back_reread_laws.proofs.Nesting.{even_literal, even_semicolon, even_step, nested_append, nested_blank}
pub use Rattle.sc_back_reread_laws.proofs.Nesting.{nested_curly, nested_even, nested_level, nested_line, nested_more}
pub use Rattle.sc_back_reread_laws.proofs.Nesting.{nested_none, nested_parens, nested_square}
pub use Rattle.sc_back_reread_laws.proofs.Performing.{even_export, even_heading, even_import}
pub use Rattle.sc_back_reread_laws.proofs.Splitting.{IsText, Joined, bytes_of}
pub use Rattle.sc_back_performer_laws.proofs.CountsKept.{all_none, none_beyond}
pub use Rattle.sc_back_performer_laws.proofs.Distinct.{among_back, among_prefix, is_false, not_both, not_from}
pub use Rattle.sc_back_performer_laws.proofs.Uses.{IsAmong, first, is_first_or_later, later, none_among}
pub use Rattle.sc_report_made.specs.Laws.{AreSame, AreSmall, IsAsked, IsSmall, MadeTextsAreAccepted, MadeTextsAreRead}
pub use Rattle.sc_report_made.specs.Laws.{MadeTreesAreTyped}
pub use Rattle.sc_report.specs.Made.{addend, all_functions, argument, made_call, drawn, made_export, function_name}
pub use Rattle.sc_report.specs.Made.{made_function, worker_functions, made_import, made_text, made_main}
pub use Rattle.sc_report.specs.Made.{numbers_from}
pub use Rattle.sc_report.specs.Made.{made_proto, state_after, worker_name, worker_text, workers}
pub use Rattle.sc_report_made.specs.Tree.{FunctionLines, add_kind, assign_simple, below, call_kind, call_of, calls_tree}
pub use Rattle.sc_report_made.specs.Tree.{element, export_at, function_at, import_at, literal, local_at, loop_kind}
pub use Rattle.sc_report_made.specs.Tree.{made_trees, main_at, main_body, main_tree, next_at, no_lines, output_import}
pub use Rattle.sc_report_made.specs.Tree.{output_kind, output_proto, proto_at, return_kind, set_kind, start_at, stmt_at}
pub use Rattle.sc_report_made.specs.Tree.{store_kind, table_at, variable, worker_tree}
