-- The names that several proofs of this crate cite, passed on from one place. Declares nothing.
pub use Rattle.std.proofs.Common.{All, Bool, IfNone, IfSome, IsTrue, List, None, Option, Some, [], ap, append-nil, ap₂}
pub use Rattle.std.proofs.Common.{arith, bytes_eq, codes, cond, drop, drop-drop, eq-eqb, eqb, eqb-true, false, flat_map}
pub use Rattle.std.proofs.Common.{fold, get_or, get_or-drop, get_or-take, is_some, le-leb, le-ltb, leb-true, length}
pub use Rattle.std.proofs.Common.{length-drop, length-take, length-take-le, ltb-true, min, nat_eq, nat_le, nat_lt}
pub use Rattle.std.proofs.Common.{ne_eqb, not, one-add, refl, slice_index, slice_range, subst, suc, sym, take}
pub use Rattle.std.proofs.Common.{take-append-drop, take_all, true, zero, ℕ, ⊎_elim, ◌&&◌, ◌*◌, ◌++◌, ◌+◌, ◌-◌, ◌<◌}
pub use Rattle.std.proofs.Common.{◌==◌, ◌||◌, ◌∙◌, ◌∷◌, ◌≡◌, ◌≤◌}
pub use Rattle.std.proofs.Math.Bool.{and-false, and-true, not-not}
pub use Rattle.std.proofs.lemmas.Bool.{and_from, and_left, and_parts, and_right, cases_lt, cond_both}
pub use Rattle.std.proofs.lemmas.Bool.{false_from_ne_true, false≢true, lt-leb, not-false, not-true, not_from_false}
pub use Rattle.std.proofs.lemmas.Bool.{not_from_true, or_cases, or_left, or_right}
pub use Rattle.std.proofs.lemmas.List.{drop_all, drop_more, take_rest}
pub use Rattle.std.proofs.lemmas.List.Folds.{list_all-append, list_all_at}
pub use Rattle.std.proofs.lemmas.List.Sums.{fold-append, fold_more, prefix_len-le-length, prefix_len_passes}
pub use Rattle.std.proofs.lemmas.List.Sums.{prefix_len_stops, sum_by-append}
pub use Rattle.std.proofs.lemmas.Option.{none-some}
pub use Rattle.std.proofs.lemmas.Slice.Eq.{bytes_eq-Decides, slice_eq-Decides}
pub use Rattle.std.specs.List.{filter, list_all, list_any, position_or_len, prefix_len, slice_split, starts_with}
pub use Rattle.sc_base.specs.Prelude.{is_between, is_name_byte, is_nondigit, name_of, reserved_words}
unfoldable pub use Rattle.sc_base.specs.Prelude.{is_name, is_reserved}
pub use Rattle.sc_lex.specs.Prelude.{AreSections, AreSpans, Cuts, IsBadHeading, IsCut, IsGap, IsPiece, IsSection}
pub use Rattle.sc_lex.specs.Prelude.{IsSpan, IsStuck, IsToken, Lex, NoHeading, NoPiece, NoToken, Refusal, RefusesBytes}
pub use Rattle.sc_lex.specs.Prelude.{allows_directive, begins_block_comment, begins_heading, begins_line_comment}
pub use Rattle.sc_lex.specs.Prelude.{block_comment, digit_value, digits_of, directive_kind, ends_comment, gap}
pub use Rattle.sc_lex.specs.Prelude.{has_suffix, is_blank, is_digit_of, is_directive, is_empty, is_export, is_heading}
pub use Rattle.sc_lex.specs.Prelude.{is_hexadecimal, is_import, is_inside_line, is_pragma, is_white_space, line_after}
pub use Rattle.sc_lex.specs.Prelude.{line_at, line_comment, line_len, mark_kind, marks, may_follow, newlines, none}
pub use Rattle.sc_lex.specs.Prelude.{nothing, digits_number, only_name, placed, radix_of, section, token, token_at}
pub use Rattle.sc_lex.specs.Prelude.{white_space, without_suffix}
unfoldable pub use Rattle.sc_lex.specs.Prelude.{is_integer_constant, is_mark, is_number_within, token_kind, line_kind}
unfoldable pub use Rattle.sc_lex.specs.Prelude.{word_kind, words}
pub use Rattle.sc_lex.specs.declared.token.Token.{Token}
pub use Rattle.sc_lex.specs.declared.token.TokenKind.{TokenKind}
pub use Rattle.sc_lex.specs.declared.token.TokenKind.TheVariants.{Compartment, Export, Ident, Import, Integer, Mark}
pub use Rattle.sc_lex.specs.declared.token.TokenKind.TheVariants.{Reserved}
