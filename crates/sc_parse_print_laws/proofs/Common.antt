-- The names that several proofs of this crate cite, passed on from one place. Declares nothing.
pub use Rattle.std.proofs.Common.{Bool, IsTrue, List, None, Option, Some, [], ap, append-nil, append_assoc, ap₂, arith}
pub use Rattle.std.proofs.Common.{bytes_eq, codes, drop, eq-eqb, eqb-true, false, get_or, if◌then◌else◌, is_some}
pub use Rattle.std.proofs.Common.{le-leb, le-ltb, leb-true, length, length-append, lt-ltb, ltb-false, map, max, nat_le}
pub use Rattle.std.proofs.Common.{nat_lt, ne_eqb, not, refl, replicate, rules, slice_index, slice_range, subst, suc}
pub use Rattle.std.proofs.Common.{sym, take, true, zero, ℕ, ⊎_elim, ◌%◌, ◌&&◌, ◌*◌, ◌++◌, ◌+◌, ◌-◌, ◌/◌, ◌<◌, ◌==◌, ◌^◌}
pub use Rattle.std.proofs.Common.{◌||◌, ◌∙◌, ◌∷◌, ◌≡◌, ◌≤◌}
pub use Rattle.std.proofs.Math.Seq.{drop-append_seam, get_or-append_seam, take-append_seam}
pub use Rattle.std.proofs.lemmas.Bool.{and_from, and_parts, cases_lt, false_from_ne_true, false≢true, not-true}
pub use Rattle.std.proofs.lemmas.Bool.{or_cases, or_left, or_right}
pub use Rattle.std.proofs.lemmas.Grind.{flat_map-append}
pub use Rattle.std.proofs.lemmas.List.Folds.{list_all-append}
pub use Rattle.std.proofs.lemmas.Slice.Eq.{bytes_eq-Decides, slice_eq-Decides}
pub use Rattle.std.specs.List.{filter, flat_map, join_by, list_all, list_any, prefix_len, slice_split}
pub use Rattle.std.specs.Option.{option_and_then}
pub use Rattle.sc_base.specs.Prelude.{is_between, is_name_byte, is_nondigit, level_of, loosest_level, name_of}
pub use Rattle.sc_base.specs.Prelude.{reserved_words}
unfoldable pub use Rattle.sc_base.specs.Prelude.{is_name, is_reserved}
pub use Rattle.sc_base.specs.declared.op.BinaryOp.{BinaryOp}
pub use Rattle.sc_base.specs.declared.op.UnaryOp.{UnaryOp}
pub use Rattle.sc_lex.proofs.Prefixes.{directive_found, mark_one, mark_two, word_found}
pub use Rattle.sc_lex.proofs.Texts.{kind_of-directive, word_run}
pub use Rattle.sc_lex.specs.Prelude.{Cuts, IsToken, allows_directive, begins_block_comment, begins_heading, begins_line}
pub use Rattle.sc_lex.specs.Prelude.{begins_line_comment, digit_value, digits_of, gap, greatest_of, has_suffix}
pub use Rattle.sc_lex.specs.Prelude.{is_blank, is_digit_of, is_empty, is_hexadecimal, is_inside_line, is_white_space}
pub use Rattle.sc_lex.specs.Prelude.{marks, nothing, digits_number, only_name, radix_of, token, token_at, value_of}
pub use Rattle.sc_lex.specs.Prelude.{white_space, without_suffix}
unfoldable pub use Rattle.sc_lex.specs.Prelude.{heading_name, integer_of, is_integer_constant, is_mark}
unfoldable pub use Rattle.sc_lex.specs.Prelude.{is_number_within, token_kind}
unfoldable pub use Rattle.sc_lex.specs.Prelude.{line_kind, word_kind, words}
pub use Rattle.sc_lex.specs.declared.token.TokenKind.{TokenKind}
pub use Rattle.sc_ast.proofs.Induction.{Each, Inside, Under, everywhere, expr_induction, stmt_induction}
pub use Rattle.sc_ast.proofs.Layers.{expr_at, stmt_at}
pub use Rattle.sc_ast.proofs.Statements.{bare_stmt, for_height, if_height, tree_height, while_height}
pub use Rattle.sc_ast.specs.Prelude.{Layout, Number, Piece, Printed, SameButLines, after_else, apart, array_length}
pub use Rattle.sc_ast.specs.Prelude.{base_words, binary_text, binary_words, blank, blank_if, block_words, call_words}
pub use Rattle.sc_ast.specs.Prelude.{chain_words, comma, condition_words, const_words, decl_height, decl_words}
pub use Rattle.sc_ast.specs.Prelude.{declared_words, decls_height, deeper, else_words, ended, equals, expr_height}
pub use Rattle.sc_ast.specs.Prelude.{expr_step, expr_words, first_words, fits, for_words, function_words, global_words}
pub use Rattle.sc_ast.specs.Prelude.{head_of, head_words, heading_words, if_words, in_parens, indent, init_words}
pub use Rattle.sc_ast.specs.Prelude.{is_chain, is_doubled, is_ident, kind_height, kind_layout, layouts, length_number}
pub use Rattle.sc_ast.specs.Prelude.{malloc_argument, malloc_words, sizeof_words, type_words}
pub use Rattle.sc_ast.specs.Prelude.{length_words, line_of, lineless_decl, lineless_export, lineless_function_head}
pub use Rattle.sc_ast.specs.Prelude.{lineless_import, lineless_kind, lineless_local, lineless_option, lineless_stmt}
pub use Rattle.sc_ast.specs.Prelude.{lineless_stmts, lines_at, literal_text, local_height, local_line, locals_height}
pub use Rattle.sc_ast.specs.Prelude.{member_line, minus_words, name_words, newline, next_words, number_typed}
pub use Rattle.sc_ast.specs.Prelude.{option_height, param_of, param_words, params_words, place_words, prefix_words}
pub use Rattle.sc_ast.specs.Prelude.{printed, result_words, return_words, section_height, section_words, simple_words}
pub use Rattle.sc_ast.specs.Prelude.{star_words, stmt_height, stmt_layout, stmts_height, struct_words, text_of}
pub use Rattle.sc_ast.specs.Prelude.{unary_text, value_words, word, words_at}
unfoldable pub use Rattle.sc_ast.specs.Prelude.{export_words, import_words}
pub use Rattle.sc_ast.specs.declared.expr.CallTree.{CallTree}
pub use Rattle.sc_ast.specs.declared.expr.ExprTree.{map-ExprTree}
unfoldable pub use Rattle.sc_ast.specs.declared.expr.ExprTree.{roll-ExprTree}
pub use Rattle.sc_ast.specs.declared.section.FunctionTree.{FunctionTree}
pub use Rattle.sc_ast.specs.declared.section.GlobalTree.{GlobalTree}
pub use Rattle.sc_ast.specs.declared.section.HeadTree.{HeadTree}
pub use Rattle.sc_ast.specs.declared.section.InitTree.{InitTree}
pub use Rattle.sc_ast.specs.declared.section.LocalTree.{LocalTree}
pub use Rattle.sc_ast.specs.declared.section.MemberTree.{MemberTree}
pub use Rattle.sc_ast.specs.declared.section.ParamTree.{ParamTree}
pub use Rattle.sc_ast.specs.declared.stmt.SimpleKind.{SimpleKind}
pub use Rattle.sc_ast.specs.declared.stmt.SimpleTree.{SimpleTree}
pub use Rattle.sc_ast.specs.declared.stmt.StmtKind.{StmtKind, StmtKind-F, map-StmtKind}
unfoldable pub use Rattle.sc_ast.specs.declared.stmt.StmtKind.{roll-StmtKind}
pub use Rattle.sc_ast.specs.declared.types.BaseTree.{BaseTree}
pub use Rattle.sc_ast.specs.declared.types.TypeName.{TypeName}
pub use Rattle.sc_ast.specs.declared.types.TypeTree.{TypeTree}
pub use Rattle.sc_parse_expr.specs.Prelude.{IsMark, Spells, arrow, binary_of, index, joined, lexeme_of, literal, looser}
pub use Rattle.sc_parse_expr.specs.Prelude.{member, or_unused, parenthesised, prefix_of, prefixed, size_of, symbol_of}
pub use Rattle.sc_parse_expr.specs.Prelude.{variable}
pub use Rattle.sc_parse_expr.specs.Prelude.{«prefix»}
unfoldable pub use Rattle.sc_parse_expr.specs.Prelude.{keyword_of, mark_of, says}
pub use Rattle.sc_parse_expr.specs.declared.mark.Keyword.{Keyword}
pub use Rattle.sc_parse_expr.specs.declared.mark.Mark.{Mark}
pub use Rattle.sc_parse.specs.Prelude.{Declares, Grouped, IsGlobal, IsKeyword, IsLocal, IsMember, Separated, SpellsArgs}
pub use Rattle.sc_parse.specs.Prelude.{SpellsBase, SpellsBlock, SpellsCall, SpellsCondition, SpellsConst, SpellsDecl}
pub use Rattle.sc_parse.specs.Prelude.{SpellsDeclarator, SpellsDirectives, SpellsHead, SpellsIf, SpellsInit, SpellsKind}
pub use Rattle.sc_parse.specs.Prelude.{SpellsParam, SpellsParams, SpellsPart, SpellsPlace, SpellsResult, SpellsSection}
pub use Rattle.sc_parse.specs.Prelude.{SpellsStars, SpellsStmtKind, SpellsStmts, SpellsTypeName, SpellsValue}
pub use Rattle.sc_parse.specs.Prelude.{first_line, more, no_args, one, some_args, type_name}
pub use Rattle.sc_parse_print_laws.specs.Common.{Decl, ExprTree, ExprTree-F, Lexeme, SectionTree, StmtTree, Symbol}
pub use Rattle.sc_parse_print_laws.specs.Common.{Token}
pub use Rattle.sc_parse_print_laws.specs.Prelude.{DeclsReadAs, DeclsSpell, ReadsAs, SaysAll, SectionReadsAs}
pub use Rattle.sc_parse_print_laws.specs.Prelude.{SectionSpells, StmtsReadAs, StmtsSpell, WordsSpell, all_kept}
pub use Rattle.sc_parse_print_laws.specs.Prelude.{are_kept, decls_text, dense_decl, dense_text, dense_words, expr_text}
pub use Rattle.sc_parse_print_laws.specs.Prelude.{is_kept, is_kept_decl, is_kept_stmt, kept_base, kept_call, kept_const}
pub use Rattle.sc_parse_print_laws.specs.Prelude.{kept_export, kept_function, kept_global, kept_head, kept_import}
pub use Rattle.sc_parse_print_laws.specs.Prelude.{kept_init, kept_kind, kept_length, kept_local, kept_malloc}
pub use Rattle.sc_parse_print_laws.specs.Prelude.{kept_member}
pub use Rattle.sc_parse_print_laws.specs.Prelude.{kept_name}
pub use Rattle.sc_parse_print_laws.specs.Prelude.{kept_option, kept_param, kept_place, kept_result, kept_section}
pub use Rattle.sc_parse_print_laws.specs.Prelude.{kept_simple, kept_step, kept_struct, kept_type, kept_value, some_kept}
pub use Rattle.sc_parse_print_laws.specs.Prelude.{stmts_text, symbols}
unfoldable pub use Rattle.sc_parse_print_laws.specs.Prelude.{word_symbol}
