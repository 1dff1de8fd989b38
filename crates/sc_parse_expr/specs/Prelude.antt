-- What this crate's contracts, its proofs and the crates above cite, passed on from one place. Declares nothing.
pub use Rattle.sc_base.specs.Prelude.{level_of, loosest_level, name_of, unary_level}
pub use Rattle.sc_lex.specs.Prelude.{AreSpans, IsSpan}
unfoldable pub use Rattle.sc_lex.specs.Prelude.{words}
pub use Rattle.sc_parse_expr.specs.Brackets.{most_open, open_after, open_after_mark}
pub use Rattle.sc_parse_expr.specs.Grammar.{Spells, arrow, index, joined, literal, looser, member, parenthesised}
pub use Rattle.sc_parse_expr.specs.Grammar.{prefix, size_of, variable, «prefix»}
pub use Rattle.sc_parse_expr.specs.Lexemes.{IsIdent, IsKeyword, IsMark, fourth_word, ident_in, import_symbol}
pub use Rattle.sc_parse_expr.specs.Lexemes.{lexeme_of, look_up, mark_texts, number_in, or_unused, symbol_of}
pub use Rattle.sc_parse_expr.specs.Lexemes.{third_word}
unfoldable pub use Rattle.sc_parse_expr.specs.Lexemes.{keyword_of, mark_of, says}
pub use Rattle.sc_parse_expr.specs.Marks.{binary_of, extension_level, extension_of, prefix_of, prefixed}
pub use Rattle.sc_parse_expr.specs.Prefixes.{Agrees, Fails, IsParse, extension_at, extension_by, following, is_mark}
pub use Rattle.sc_parse_expr.specs.Prefixes.{begins_with, first_line, first_of, ident_at, keyword_at, keyword_by}
pub use Rattle.sc_parse_expr.specs.Prefixes.{is_empty, mark_at, mark_by, name_at, name_by, ◌>>=◌}
pub use Rattle.sc_parse_expr.specs.Reading.{Found, Reader, accessed, extension_within, found, joined_with, lead_by}
pub use Rattle.sc_parse_expr.specs.Reading.{lead_of, lead_with, leaf_at, leaf_of, level_with, named_with}
pub use Rattle.sc_parse_expr.specs.Reading.{paren_with, prefix_with, read_expr, read_nested, size_within, turn_with}
pub use Rattle.sc_parse_expr.specs.Reading.{within}
unfoldable pub use Rattle.sc_parse_expr.specs.Reading.{extended_with, go_on, operand_with, read, read_within}
pub use Rattle.sc_parse_expr.specs.TypeReaders.{base_by, is_int, past_int}
unfoldable pub use Rattle.sc_parse_expr.specs.TypeReaders.{base_at, star_count, type_in_parens, type_name_at}
pub use Rattle.sc_parse_expr.specs.Types.{SpellsBase, SpellsStars, SpellsTypeName, int, none, signed, signed_int, star}
pub use Rattle.sc_parse_expr.specs.Types.{struct, type_name, unsigned, unsigned_int}
pub use Rattle.sc_parse_expr.specs.declared.fault.SyntaxFault.TheVariants.{OutOfMemory, Refused}
