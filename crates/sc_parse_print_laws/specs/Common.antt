-- The names from below that several definitions of this crate cite, passed on from one place. Declares nothing.
pub use Rattle.sc_base.specs.Prelude.{is_name, loosest_level}
pub use Rattle.sc_lex.specs.Prelude.{IsCut, token_kind}
pub use Rattle.sc_lex.specs.declared.token.Token.{Token}
pub use Rattle.sc_ast.specs.Prelude.{Piece, SameButLines, decl_words, export_words, expr_words, fits, head_of}
pub use Rattle.sc_ast.specs.Prelude.{heading_words, import_words, is_ident, is_place, layouts, lineless_decl}
pub use Rattle.sc_ast.specs.Prelude.{lineless_stmts, lines_at, section_words, text_of, word}
pub use Rattle.sc_ast.specs.declared.expr.ExprTree.{ExprTree, ExprTree-F, fold-ExprTree}
pub use Rattle.sc_ast.specs.declared.section.Decl.{Decl}
pub use Rattle.sc_ast.specs.declared.section.SectionTree.{SectionTree}
pub use Rattle.sc_ast.specs.declared.stmt.StmtTree.{StmtTree, StmtTree-F, fold-StmtTree}
pub use Rattle.sc_parse_expr.specs.Prelude.{Spells, lexeme_of, or_unused, says, symbol_of}
pub use Rattle.sc_parse_expr.specs.declared.lexeme.Lexeme.{Lexeme}
pub use Rattle.sc_parse_expr.specs.declared.lexeme.Symbol.{Symbol}
pub use Rattle.sc_parse.specs.Prelude.{Grouped, SpellsDecl, SpellsSection, SpellsStmts}
