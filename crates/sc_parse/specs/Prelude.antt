-- What this crate's contracts, its proofs and the crates above cite, passed on from one place. Declares nothing.
pub use Rattle.sc_lex.specs.Prelude.{IsCut, IsSpan, line_after}
pub use Rattle.sc_ast.specs.declared.section.SectionTree.{SectionTree}
pub use Rattle.sc_parse_expr.specs.Prelude.{Agrees, following, most_open, name_at, open_after, open_after_mark}
pub use Rattle.sc_parse_expr.specs.Prelude.{symbol_of}
unfoldable pub use Rattle.sc_parse_expr.specs.Prelude.{says}
pub use Rattle.sc_parse.specs.Declarations.{Declares, IsGlobal, IsLocal, IsMember, SpellsConst, SpellsDecl}
pub use Rattle.sc_parse.specs.Declarations.{SpellsFunction, SpellsHead, SpellsInit, SpellsParam, SpellsParams}
pub use Rattle.sc_parse.specs.Declarations.{SpellsResult, SpellsStruct, SpellsValue, a_function, a_result, a_struct}
pub use Rattle.sc_parse.specs.Declarations.{a_value, absent, declares, function, global, globals, head, local, many}
pub use Rattle.sc_parse.specs.Declarations.{many_comma, named, nameless, negated, no_params, no_result, no_value}
pub use Rattle.sc_parse.specs.Declarations.{prototype, some_params, struct}
pub use Rattle.sc_parse.specs.Limits.{IsParsed, lexemes_of, whole_line}
pub use Rattle.sc_parse.specs.Lists.{Grouped, IsInteger, IsKeyword, Separated, first_line, more, next, none, one}
pub use Rattle.sc_parse.specs.Lookahead.{Reader, after_inner_comma, begins_call, begins_with, ended_by, integer_by}
pub use Rattle.sc_parse.specs.Lookahead.{is_base, is_else, is_int, is_void, keyword_at, keyword_by, past_int}
unfoldable pub use Rattle.sc_parse.specs.Lookahead.{star_count}
pub use Rattle.sc_parse.specs.Outcomes.{IsExcess, Parses, open_at}
unfoldable pub use Rattle.sc_parse.specs.Outcomes.{tree_of}
pub use Rattle.sc_parse.specs.Readers.{Adder, add_global, add_member, all_consts, all_separated, base_by, begins_struct}
pub use Rattle.sc_parse.specs.Readers.{bracketed_length, const_tree, declarator, elements_at, head_tree, is_struct_word}
pub use Rattle.sc_parse.specs.Readers.{literal_at, members_in_braces, names_struct, one_at, param_tree}
pub use Rattle.sc_parse.specs.Readers.{params_in_parens, past_base, past_comma, past_stars, struct_tree, type_of}
unfoldable pub use Rattle.sc_parse.specs.Readers.{adds, base_at, begins_head, const_at, consts_at, declaration_at}
unfoldable pub use Rattle.sc_parse.specs.Readers.{declarator_at, global_at, grouped, head_at, init_at, initialiser_at}
unfoldable pub use Rattle.sc_parse.specs.Readers.{length_at, member_at, members_at, param_at, params_at, result_at}
unfoldable pub use Rattle.sc_parse.specs.Readers.{separated, struct_at, type_name_at}
pub use Rattle.sc_parse.specs.SectionReaders.{add_local, compartment_at, compartment_by, decls_at, directives}
pub use Rattle.sc_parse.specs.SectionReaders.{directives_at, export_line, function_head, function_param, function_tree}
pub use Rattle.sc_parse.specs.SectionReaders.{import_line, is_empty, line_at, line_by, locals_at, named_head}
pub use Rattle.sc_parse.specs.SectionReaders.{named_params, no_base, past_head, section_at, section_tree, with_line}
unfoldable pub use Rattle.sc_parse.specs.SectionReaders.{body_at, decl_at, function_at, headed_at, lines_at, local_at}
unfoldable pub use Rattle.sc_parse.specs.SectionReaders.{section_within, struct_decl_at, value_at}
pub use Rattle.sc_parse.specs.Sections.{SpellsDirectives, SpellsSection, export, section}
pub use Rattle.sc_parse.specs.Statements.{SpellsArgs, SpellsBlock, SpellsCall, SpellsCondition, SpellsIf, SpellsKind}
pub use Rattle.sc_parse.specs.Statements.{SpellsPart, SpellsPlace, SpellsStmtKind, SpellsStmts, SpellsTest, a_part}
pub use Rattle.sc_parse.specs.Statements.{a_test, allocate, assign, assign_call, block, call, choice, compound}
pub use Rattle.sc_parse.specs.Statements.{compound_of, condition, empty, for_loop, lone_if, no_args, no_part, no_test}
pub use Rattle.sc_parse.specs.Statements.{otherwise, release}
pub use Rattle.sc_parse.specs.Statements.{otherwise_if, return_call, return_nothing, return_value, some_args}
pub use Rattle.sc_parse.specs.Statements.{step_after, step_before, step_of, updates, while_loop}
pub use Rattle.sc_parse.specs.StmtReaders.{add_arg, always, args_in_parens, before_mark, begins_value, call_statement}
pub use Rattle.sc_parse.specs.StmtReaders.{call_tree, change_at, change_of, changed, for_parts, free_statement, is_free}
pub use Rattle.sc_parse.specs.StmtReaders.{is_if, is_malloc, kind_by, loop_of, makes_value, malloc_by, malloc_of}
pub use Rattle.sc_parse.specs.StmtReaders.{mark_at, mark_by, placed, product_by, simple_or_none, simple_tree}
pub use Rattle.sc_parse.specs.StmtReaders.{sized_type}
pub use Rattle.sc_parse.specs.StmtReaders.{step_at, stmt_tree, stmts_at, unary_place, unfreed, unstepped}
pub use Rattle.sc_parse.specs.StmtReaders.{value_assigned}
pub use Rattle.sc_parse.specs.StmtReaders.{value_returned}
unfoldable pub use Rattle.sc_parse.specs.StmtReaders.{after_else, after_for, after_if, after_while, args_at}
unfoldable pub use Rattle.sc_parse.specs.StmtReaders.{allocated_at, assigned_at, assignment_at, block_at, call_at}
unfoldable pub use Rattle.sc_parse.specs.StmtReaders.{condition_at}
unfoldable pub use Rattle.sc_parse.specs.StmtReaders.{else_at, ended_at, expr_at, first_part, for_head, last_part}
unfoldable pub use Rattle.sc_parse.specs.StmtReaders.{middle_part, operand_at, part_at, place_at, plain_at, returned}
unfoldable pub use Rattle.sc_parse.specs.StmtReaders.{simple_at, stepped, stmt_at, stmt_within, test_at}
pub use Rattle.sc_parse.specs.Types.{SpellsBase, SpellsDeclarator, SpellsStars, SpellsTypeName, array, int, plain}
pub use Rattle.sc_parse.specs.Types.{signed, signed_int, star, type_name, unsigned, unsigned_int}
