-- What this crate's contracts, its proofs and the crates above cite, passed on from one place. Declares nothing.
pub use Rattle.sc_ast.specs.Allocated.{malloc_argument}
pub use Rattle.sc_ast.specs.ExprWords.{Printed, apart, binary_text, binary_words, call_words, expr_step, expr_words}
pub use Rattle.sc_ast.specs.ExprWords.{is_doubled, literal_text, place_words, prefix_words, sizeof_words, unary_text}
pub use Rattle.sc_ast.specs.ExprWords.{words_at}
pub use Rattle.sc_ast.specs.Heads.{has_nameless, head_of, param_of}
pub use Rattle.sc_ast.specs.Height.{call_height, decl_height, decls_height, expr_height, exprs_height}
pub use Rattle.sc_ast.specs.Height.{function_height, highest, kind_height, limited, local_height, optional_height}
pub use Rattle.sc_ast.specs.Height.{locals_height, option_height, section_height, simple_kind_height, stmt_height}
pub use Rattle.sc_ast.specs.Height.{stmts_height}
pub use Rattle.sc_ast.specs.Identifiers.{ident_of, is_ident}
pub use Rattle.sc_ast.specs.Lineless.{SameButLines, kind_step, lineless_decl, lineless_export, lineless_function}
pub use Rattle.sc_ast.specs.Lineless.{lineless_function_head, lineless_head, lineless_import, lineless_kind}
pub use Rattle.sc_ast.specs.Lineless.{lineless_local, lineless_option, lineless_simple, lineless_stmt, lineless_stmts}
pub use Rattle.sc_ast.specs.Lineless.{stmt_step}
pub use Rattle.sc_ast.specs.Lists.{non_empty}
pub use Rattle.sc_ast.specs.Numbers.{Number, array_length, fits, number_typed}
pub use Rattle.sc_ast.specs.Pieces.{Piece, blank, blank_if, closed, comma, deeper, in_parens, indent, line_of, newline}
pub use Rattle.sc_ast.specs.Pieces.{opened, piece_text, text_of, word}
pub use Rattle.sc_ast.specs.Places.{is_place, place_of}
pub use Rattle.sc_ast.specs.SectionWords.{const_words, decl_words, declared_words, function_words, global_words}
pub use Rattle.sc_ast.specs.SectionWords.{head_words, heading_words, init_words, length_number, length_words}
pub use Rattle.sc_ast.specs.SectionWords.{local_line, member_line, minus_words, name_words, param_words, params_words}
pub use Rattle.sc_ast.specs.SectionWords.{printed, result_words, section_words, struct_words, value_words}
unfoldable pub use Rattle.sc_ast.specs.SectionWords.{export_words, import_words}
pub use Rattle.sc_ast.specs.Simple.{stmt_kind_of}
pub use Rattle.sc_ast.specs.StmtWords.{Layout, after_else, allocation_words, assign_call_words, assign_words}
pub use Rattle.sc_ast.specs.StmtWords.{block_words, chain_words, condition_words, else_words, ended, equals}
pub use Rattle.sc_ast.specs.StmtWords.{first_words, for_words, free_words, if_words, is_chain, kind_layout, layouts}
pub use Rattle.sc_ast.specs.StmtWords.{lines_at, malloc_words, next_words, return_words, simple_words, stmt_layout}
pub use Rattle.sc_ast.specs.TypeWords.{base_words, star_words, type_words}
