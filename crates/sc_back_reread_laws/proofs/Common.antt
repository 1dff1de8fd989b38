-- The names that several proofs of this crate cite, passed on from one place. Declares nothing.
pub use Rattle.std.proofs.Common.{Bool, IsTrue, List, None, Option, Some, [], ap, append-nil, append_assoc, ap₂, arith}
pub use Rattle.std.proofs.Common.{codes, cond, decimal, drop, drop-drop, eq-eqb, eqb-true, false, get_or, get_or-drop}
pub use Rattle.std.proofs.Common.{if◌then◌else◌, inl, inr, is_some, le-leb, leb-false, leb-true, length, length-append}
pub use Rattle.std.proofs.Common.{length-drop, length-take-le, map, max, nat_le, nat_lt, ne_eqb, not, refl, replicate}
pub use Rattle.std.proofs.Common.{rules, slice_index, slice_range, subst, suc, sym, take, take-append-drop, true, zero}
pub use Rattle.std.proofs.Common.{ℕ, ⊎_elim, ◌&&◌, ◌*◌, ◌++◌, ◌+◌, ◌-◌, ◌<◌, ◌==◌, ◌^◌, ◌||◌, ◌∙◌, ◌∷◌, ◌≡◌, ◌≤◌, ◌⊎◌}
pub use Rattle.std.proofs.Math.Seq.{drop-append_seam, take-append_seam}
pub use Rattle.std.proofs.lemmas.Bool.{and_from, and_parts, cases_lt, false≢true, or_left}
pub use Rattle.std.proofs.lemmas.Grind.{flat_map-append}
pub use Rattle.std.proofs.lemmas.List.{drop-append-le, drop_all, get_or_append_left, take-append-le}
pub use Rattle.std.proofs.lemmas.List.Elements.{All-from_recursion, recursion_from_All}
pub use Rattle.std.specs.Fmt.{signed_decimal}
unfoldable pub use Rattle.std.specs.Fmt.{digits}
pub use Rattle.std.specs.List.{AllByRecursion, AllZip, concat, filter, filter_map, flat_map, join_by, list_all}
pub use Rattle.std.specs.Option.{option_and_then, option_map, option_or}
pub use Rattle.sc_base.specs.Prelude.{IsWord, IsWordOrNone, is_digit, is_name_byte, is_nondigit, name_of, signed_text}
unfoldable pub use Rattle.sc_base.specs.Prelude.{is_name, is_reserved}
pub use Rattle.sc_event.specs.declared.interface.Import.{Import}
pub use Rattle.sc_event.specs.declared.interface.Proto.{Proto}
pub use Rattle.sc_event.specs.declared.interface.Scalar.{Scalar}
pub use Rattle.sc_event.specs.declared.row.Entry.{Entry}
pub use Rattle.sc_lex.specs.Prelude.{AreSections, IsCut, IsSection, IsSplit, NoHeading, begins_heading, begins_line}
pub use Rattle.sc_lex.specs.Prelude.{directive_kind, line_text, is_blank, is_directive, is_export, is_heading}
pub use Rattle.sc_lex.specs.Prelude.{is_import, is_inside_line, is_pragma, line_at, line_len, mark_kind, marks, name_at}
pub use Rattle.sc_lex.specs.Prelude.{none, only_name, section}
pub use Rattle.sc_lex.specs.declared.section.Section.{Section}
pub use Rattle.sc_lex.specs.declared.token.Token.{Token}
pub use Rattle.sc_lex.specs.declared.token.TokenKind.{TokenKind}
pub use Rattle.sc_ast.specs.Prelude.{Number, Piece, SameButLines, binary_text, blank, block_words, call_words, comma}
pub use Rattle.sc_ast.specs.Prelude.{condition_words, decl_height, decl_words, decls_height, ended, expr_height}
pub use Rattle.sc_ast.specs.Prelude.{expr_words, exprs_height, fits, function_height, function_words, head_of}
pub use Rattle.sc_ast.specs.Prelude.{head_words, heading_words, ident_of, indent, is_ident, layouts, line_of, lines_at}
pub use Rattle.sc_ast.specs.Prelude.{literal_text, newline, param_of, param_words, params_words, piece_text}
pub use Rattle.sc_ast.specs.Prelude.{result_words, return_words, section_height, section_words, stmt_height}
pub use Rattle.sc_ast.specs.Prelude.{stmt_layout, stmts_height, text_of, word}
unfoldable pub use Rattle.sc_ast.specs.Prelude.{export_words, import_words}
pub use Rattle.sc_ast.specs.declared.expr.ExprTree.{ExprTree}
pub use Rattle.sc_ast.specs.declared.section.Decl.{Decl}
pub use Rattle.sc_ast.specs.declared.section.FunctionTree.{FunctionTree}
pub use Rattle.sc_ast.specs.declared.section.ImportLine.{ImportLine}
pub use Rattle.sc_ast.specs.declared.stmt.StmtTree.{StmtTree}
pub use Rattle.sc_parse_expr.specs.Prelude.{fourth_word, ident_in, import_symbol, keyword_of, mark_of, most_open}
pub use Rattle.sc_parse_expr.specs.Prelude.{number_in}
pub use Rattle.sc_parse_expr.specs.Prelude.{open_after, open_after_mark, or_unused, symbol_of, third_word}
pub use Rattle.sc_parse_expr.specs.declared.lexeme.Lexeme.{Lexeme}
pub use Rattle.sc_parse_expr.specs.declared.lexeme.Symbol.{Symbol}
pub use Rattle.sc_parse.specs.Prelude.{Grouped, IsParsed, SpellsDecl, SpellsDirectives, SpellsFunction, SpellsHead}
pub use Rattle.sc_parse.specs.Prelude.{SpellsSection, lexemes_of}
pub use Rattle.sc_parse_print_laws.proofs.DirectiveWords.{export_says, heading_begins, heading_is, heading_line_is}
pub use Rattle.sc_parse_print_laws.proofs.DirectiveWords.{heading_says, import_says}
pub use Rattle.sc_parse_print_laws.proofs.Lined.{Found, Lined, found_lines, line, tidy}
pub use Rattle.sc_parse_print_laws.proofs.Literals.{literal_kind, literal_says, literal_some, name_kind, name_says}
pub use Rattle.sc_parse_print_laws.proofs.Literals.{name_some, no_table}
pub use Rattle.sc_parse_print_laws.proofs.Reading.{Reading, Say, joined_symbols}
pub use Rattle.sc_parse_print_laws.proofs.Spacing.{Tidy, at_level, gap, line_end, lone, next, run_is, tidy_append}
pub use Rattle.sc_parse_print_laws.proofs.TreeSpacing.{Free, decl_tidy, head_tidy, stmt_holds}
pub use Rattle.sc_parse_print_laws.proofs.Whole.{exports_lined, imports_lined, section_reads}
pub use Rattle.sc_parse_print_laws.specs.Prelude.{are_kept, is_kept, is_kept_decl, is_kept_stmt, kept_export}
pub use Rattle.sc_parse_print_laws.specs.Prelude.{kept_function, kept_head, kept_import, kept_param, kept_section}
pub use Rattle.sc_parse_print_laws.specs.Prelude.{piece_symbols, symbols, word_symbol}
pub use Rattle.sc_parse_read.specs.Reading.{IsRead, TextPart, part_of}
pub use Rattle.sc_back.specs.Prelude.{AllBecome, AreNumbered, Becomes, CanPerform, IsCalled, IsImported, IsSpoken}
pub use Rattle.sc_back.specs.Prelude.{action_kind, action_text, all_functions, back_text, back_tree, body_tree}
pub use Rattle.sc_back.specs.Prelude.{call_kind, call_text, counter, counter_name, export_line, export_text}
pub use Rattle.sc_back.specs.Prelude.{function_head, function_params, function_text, function_tree, function_trees}
pub use Rattle.sc_back.specs.Prelude.{functions_text, head_text, import_head, import_text, imported, input_proto, is_of}
pub use Rattle.sc_back.specs.Prelude.{joined, kept, literal, main_proto, main_text, main_trees, new_text, new_texts}
pub use Rattle.sc_back.specs.Prelude.{output_proto, owner_name, param_name, param_text, param_texts, params_text}
pub use Rattle.sc_back.specs.Prelude.{proto_head, proto_params, proto_text, replaced, result_text, return_kind}
pub use Rattle.sc_back.specs.Prelude.{return_text, row_kind, row_text, section_text, type_name, unlined, value_text}
pub use Rattle.sc_back.specs.Prelude.{value_texts, value_tree, value_trees}
pub use Rattle.sc_back_reread_laws.specs.Common.{Interface, Interfaces, Row, SectionTree}
pub use Rattle.sc_back_reread_laws.specs.Performing.{IsParsedAs, IsReadAs, PerformingTextsAreRead}
