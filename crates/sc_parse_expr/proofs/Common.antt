-- The names that several proofs of this crate cite, passed on from one place. Declares nothing.
pub use Rattle.std.proofs.Common.{Bool, Bor, Err, IfOk, IsErrOf, List, None, Ok, Option, Result, Some, [], ap}
pub use Rattle.std.proofs.Common.{append_assoc, arith, cond, drop, false, le-leb, leb, leb-true, map, max, nat_lt}
pub use Rattle.std.proofs.Common.{lt-ltb, ltb-true, one-add, refl, rules, subst, suc, sym, take, true, zero, ℕ, ⊎_elim}
pub use Rattle.std.proofs.Common.{◌*◌, ◌++◌, ◌+◌, ◌-◌, ◌<◌, ◌∙◌, ◌∷◌, ◌≡◌, ◌≤◌}
pub use Rattle.std.proofs.lemmas.Bool.{cases_lt, cond_both, false_from_ne_true, false≢true, lt-leb}
pub use Rattle.std.proofs.lemmas.Option.{cond_some, none-some}
pub use Rattle.sc_base.specs.Prelude.{level_of, loosest_level, unary_level}
pub use Rattle.sc_ast.specs.Prelude.{Number, expr_height}
pub use Rattle.sc_parse_expr.specs.Common.{BaseTree, BinaryOp, ExprTree, TypeName}
pub use Rattle.sc_parse_expr.specs.Prelude.{Agrees, Fails, Found, IsIdent, IsKeyword, IsMark, IsParse, OutOfMemory}
pub use Rattle.sc_parse_expr.specs.Prelude.{Reader, Refused, Spells, SpellsBase, SpellsStars, SpellsTypeName, arrow}
pub use Rattle.sc_parse_expr.specs.Prelude.{base_by, begins_with, binary_of, extension_at, extension_by}
pub use Rattle.sc_parse_expr.specs.Prelude.{extension_level, extension_of, extension_within, following, found, index}
pub use Rattle.sc_parse_expr.specs.Prelude.{int, is_int, is_mark, joined, joined_with, keyword_at, keyword_by, lead_by}
pub use Rattle.sc_parse_expr.specs.Prelude.{lead_of, lead_with, leaf_of, level_with, lexeme_of, literal, looser, member}
pub use Rattle.sc_parse_expr.specs.Prelude.{most_open, name_at, name_by, none, open_after, parenthesised, past_int}
pub use Rattle.sc_parse_expr.specs.Prelude.{prefix_of, prefixed, read_expr, read_nested, signed, signed_int, size_of}
pub use Rattle.sc_parse_expr.specs.Prelude.{size_within, star, struct, turn_with, type_name, unsigned, unsigned_int}
pub use Rattle.sc_parse_expr.specs.Prelude.{variable, within, «prefix», ◌>>=◌}
unfoldable pub use Rattle.sc_parse_expr.specs.Prelude.{base_at, extended_with, go_on, operand_with, read, read_within}
unfoldable pub use Rattle.sc_parse_expr.specs.Prelude.{star_count, type_in_parens, type_name_at}
pub use Rattle.sc_parse_expr.specs.declared.fault.SyntaxFault.{SyntaxFault}
pub use Rattle.sc_parse_expr.specs.declared.lexeme.Lexeme.{Lexeme}
pub use Rattle.sc_parse_expr.specs.declared.lexeme.Symbol.{Symbol}
pub use Rattle.sc_parse_expr.specs.declared.mark.Keyword.{Keyword}
pub use Rattle.sc_parse_expr.specs.declared.mark.Mark.{Mark}
pub use Rattle.sc_parse_expr.specs.declared.operator.Extension.{Extension}
pub use Rattle.sc_parse_expr.specs.declared.operator.Prefix.{Prefix}
pub use Rattle.std.proofs.Common.{IsTrue, bytes_eq, codes, get_or, is_some, length, leb-false, nat_le, slice_range}
pub use Rattle.std.proofs.Common.{◌&&◌, ◌||◌}
pub use Rattle.std.specs.Option.{option_map, option_or}
pub use Rattle.std.specs.Prelude.{unwrap_or}
pub use Rattle.sc_base.specs.Prelude.{is_name, is_reserved, name_of}
pub use Rattle.sc_lex.specs.Prelude.{directive_kind, heading_name, is_export, is_import, is_integer_constant, mark_kind}
pub use Rattle.sc_lex.specs.Prelude.{words}
unfoldable pub use Rattle.sc_lex.specs.Prelude.{integer_of, line_kind, word_kind}
pub use Rattle.sc_lex.specs.declared.token.Token.{Token}
pub use Rattle.sc_parse_expr.specs.Prelude.{IsSpan, fourth_word, ident_in, import_symbol, look_up, mark_by, mark_texts}
pub use Rattle.sc_parse_expr.specs.Prelude.{number_in, or_unused, symbol_of, third_word}
unfoldable pub use Rattle.sc_parse_expr.specs.Prelude.{keyword_of, mark_of, says}
