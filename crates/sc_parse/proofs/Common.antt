-- The names that several proofs of this crate cite, passed on from one place. Declares nothing.
pub use Rattle.std.proofs.Common.{Any, Bool, Err, IfOk, IsErrOf, IsTrue, List, None, Ok, Option, Result, Some, [], ap}
pub use Rattle.std.proofs.Common.{append-nil, append_assoc, arith, bytes_eq, codes, cond, drop, false, get_or, is_some}
pub use Rattle.std.proofs.Common.{le-leb, leb, leb-false, leb-true, length, length-append, lt-ltb, ltb-true, map, max}
pub use Rattle.std.proofs.Common.{nat_le, nat_lt, not, one-add, refl, rules, slice_range, subst, subst₂, suc, sym, take}
pub use Rattle.std.proofs.Common.{true, zero, ℕ, ◌&&◌, ◌*◌, ◌++◌, ◌+◌, ◌-◌, ◌<◌, ◌||◌, ◌∙◌, ◌∷◌, ◌≡◌, ◌≤◌}
pub use Rattle.std.proofs.lemmas.Bool.{cond_both, false_from_ne_true, false≢true, lt-leb}
pub use Rattle.std.proofs.lemmas.List.{length-map, take_more}
pub use Rattle.std.proofs.lemmas.Option.{none-some}
pub use Rattle.std.specs.Option.{option_map, option_map_or, option_or}
pub use Rattle.sc_base.specs.Prelude.{is_name, is_reserved, loosest_level, name_of}
pub use Rattle.sc_lex.specs.Prelude.{IsSpan, directive_kind, heading_name, is_export, is_import, is_integer_constant}
pub use Rattle.sc_lex.specs.Prelude.{line_after}
pub use Rattle.sc_lex.specs.Prelude.{mark_kind, words}
unfoldable pub use Rattle.sc_lex.specs.Prelude.{integer_of, line_kind, word_kind}
pub use Rattle.sc_lex.specs.declared.token.Token.{Token}
pub use Rattle.sc_ast.proofs.Statements.{break_height, continue_height, empty_height, for_height, if_height}
pub use Rattle.sc_ast.proofs.Statements.{plain_height, return_call_height, return_height, tree_height, value_height}
pub use Rattle.sc_ast.proofs.Statements.{while_height}
pub use Rattle.sc_ast.specs.Prelude.{Number, array_length, call_height, decl_height, decls_height}
pub use Rattle.sc_ast.specs.Prelude.{expr_height, malloc_argument}
pub use Rattle.sc_ast.specs.Prelude.{exprs_height, has_nameless, head_of, highest, is_place, kind_height}
pub use Rattle.sc_ast.specs.Prelude.{optional_height}
pub use Rattle.sc_ast.specs.Prelude.{stmt_kind_of, local_height, locals_height, non_empty, option_height, param_of}
pub use Rattle.sc_ast.specs.Prelude.{section_height, simple_kind_height, stmts_height}
pub use Rattle.sc_ast.specs.declared.section.FunctionParam.{FunctionParam}
pub use Rattle.sc_parse_expr.proofs.Ahead.{bound, cond_is, first_mark, glued, name_ahead, same_some}
pub use Rattle.sc_parse_expr.proofs.Balance.{open_along, open_low}
pub use Rattle.sc_parse_expr.proofs.Sound.{read_sound}
pub use Rattle.sc_parse_expr.specs.Prelude.{IsIdent, IsMark, Spells, arrow, binary_of, extension_at, following, found}
pub use Rattle.sc_parse_expr.specs.Prelude.{ident_in, import_symbol, index, is_mark, joined, lead_by, lexeme_of}
pub use Rattle.sc_parse_expr.specs.Prelude.{literal}
pub use Rattle.sc_parse_expr.specs.Prelude.{look_up, looser, mark_texts, member, most_open, name_at, number_in}
pub use Rattle.sc_parse_expr.specs.Prelude.{open_after, open_after_mark, or_unused, parenthesised, prefix, prefix_of}
pub use Rattle.sc_parse_expr.specs.Prelude.{prefixed, read, size_of, symbol_of, third_word, variable, ◌>>=◌}
unfoldable pub use Rattle.sc_parse_expr.specs.Prelude.{mark_of, says}
pub use Rattle.sc_parse_expr.specs.declared.operator.Prefix.{Prefix}
pub use Rattle.sc_parse.specs.Common.{BaseTree, BinaryOp, CallTree, ConstTree, Decl, Declarator, ExportLine, ExprTree}
pub use Rattle.sc_parse.specs.Common.{FunctionHead, FunctionTree, HeadTree, ImportLine, InitTree, Keyword, Lexeme}
pub use Rattle.sc_parse.specs.Common.{LocalTree, Mark, MemberTree, ParamTree, SimpleKind, SimpleTree, StmtKind}
pub use Rattle.sc_parse.specs.Common.{StmtTree, StructTree, Symbol, TypeName, TypeTree}
pub use Rattle.sc_parse.specs.Prelude.{Adder, Declares, Grouped, IsExcess, IsGlobal, IsInteger, IsKeyword, IsLocal}
pub use Rattle.sc_parse.specs.Prelude.{IsMember, IsParsed, Parses, Reader, SectionTree, Separated, SpellsArgs}
pub use Rattle.sc_parse.specs.Prelude.{SpellsBase, SpellsBlock, SpellsCall, SpellsCondition, SpellsConst, SpellsDecl}
pub use Rattle.sc_parse.specs.Prelude.{SpellsDeclarator, SpellsDirectives, SpellsHead, SpellsIf, SpellsInit, SpellsKind}
pub use Rattle.sc_parse.specs.Prelude.{SpellsParam, SpellsParams, SpellsPart, SpellsPlace, SpellsResult, SpellsSection}
pub use Rattle.sc_parse.specs.Prelude.{SpellsStars, SpellsStmtKind, SpellsStmts, SpellsStruct, SpellsTest}
pub use Rattle.sc_parse.specs.Prelude.{SpellsTypeName, SpellsValue, a_function, a_part, a_result, a_struct, a_test}
pub use Rattle.sc_parse.specs.Prelude.{a_value, absent, add_arg, add_global, add_local, add_member, after_inner_comma}
pub use Rattle.sc_parse.specs.Prelude.{allocate}
pub use Rattle.sc_parse.specs.Prelude.{all_separated, array, assign, assign_call, base_by, before_mark, begins_call}
pub use Rattle.sc_parse.specs.Prelude.{begins_struct, begins_value, begins_with, block, call, call_tree, change_at}
pub use Rattle.sc_parse.specs.Prelude.{change_of, changed, choice, compartment_at, compartment_by, compound}
pub use Rattle.sc_parse.specs.Prelude.{compound_of, condition, const_tree, declarator, declares, decls_at, directives}
pub use Rattle.sc_parse.specs.Prelude.{directives_at, elements_at, empty, ended_by, export, export_line, first_line}
pub use Rattle.sc_parse.specs.Prelude.{for_loop, for_parts, free_statement, function, function_head, function_param}
pub use Rattle.sc_parse.specs.Prelude.{function_tree}
pub use Rattle.sc_parse.specs.Prelude.{global, globals, head, head_tree, import_line, int, integer_by, is_base, is_else}
pub use Rattle.sc_parse.specs.Prelude.{is_empty, is_free, is_if, is_int, is_malloc, is_struct_word, is_void, keyword_at}
pub use Rattle.sc_parse.specs.Prelude.{keyword_by, malloc_by, malloc_of, product_by, sized_type}
pub use Rattle.sc_parse.specs.Prelude.{kind_by, lexemes_of, line_at, line_by, literal_at, local, locals_at, lone_if}
pub use Rattle.sc_parse.specs.Prelude.{loop_of, makes_value, many, many_comma, mark_at, mark_by, members_in_braces}
pub use Rattle.sc_parse.specs.Prelude.{more, named, named_head, named_params, nameless, names_struct, negated, next}
pub use Rattle.sc_parse.specs.Prelude.{no_args, no_base, no_params, no_part, no_result, no_test, no_value, none, one}
pub use Rattle.sc_parse.specs.Prelude.{otherwise, otherwise_if, param_tree, params_in_parens, past_base, past_comma}
pub use Rattle.sc_parse.specs.Prelude.{past_head, past_int, past_stars, placed, plain, prototype, return_call}
pub use Rattle.sc_parse.specs.Prelude.{return_nothing, return_value, section, section_at, section_tree, signed}
pub use Rattle.sc_parse.specs.Prelude.{release, signed_int, simple_or_none, simple_tree, some_args, some_params, star}
pub use Rattle.sc_parse.specs.Prelude.{step_after, step_at, step_before, step_of, stmt_tree, stmts_at, struct}
pub use Rattle.sc_parse.specs.Prelude.{struct_tree, type_name, type_of, unary_place, unfreed, unsigned, unsigned_int}
pub use Rattle.sc_parse.specs.Prelude.{unstepped, value_assigned}
pub use Rattle.sc_parse.specs.Prelude.{updates, value_returned, while_loop, whole_line, with_line}
unfoldable pub use Rattle.sc_parse.specs.Prelude.{adds, after_else, after_for, after_if, after_while, args_at}
unfoldable pub use Rattle.sc_parse.specs.Prelude.{allocated_at, assigned_at, assignment_at, base_at, begins_head}
unfoldable pub use Rattle.sc_parse.specs.Prelude.{block_at, body_at}
unfoldable pub use Rattle.sc_parse.specs.Prelude.{call_at, condition_at, const_at, consts_at, decl_at, declaration_at}
unfoldable pub use Rattle.sc_parse.specs.Prelude.{declarator_at, else_at, ended_at, expr_at, first_part, for_head}
unfoldable pub use Rattle.sc_parse.specs.Prelude.{function_at, global_at, grouped, head_at, headed_at, init_at}
unfoldable pub use Rattle.sc_parse.specs.Prelude.{initialiser_at, last_part, length_at, lines_at, local_at, member_at}
unfoldable pub use Rattle.sc_parse.specs.Prelude.{members_at, middle_part, operand_at, param_at, params_at, part_at}
unfoldable pub use Rattle.sc_parse.specs.Prelude.{place_at, plain_at, result_at, returned, section_within, separated}
unfoldable pub use Rattle.sc_parse.specs.Prelude.{simple_at, star_count, stepped, stmt_at, stmt_within, struct_at}
unfoldable pub use Rattle.sc_parse.specs.Prelude.{struct_decl_at, test_at, tree_of, type_name_at, value_at}
pub use Rattle.sc_parse.specs.declared.section.Directives.{Directives}
pub use Rattle.sc_parse.specs.declared.section.Line.{Line}
