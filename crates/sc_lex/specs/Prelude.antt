-- What this crate's contracts, its proofs and the crates above cite, passed on from one place. Declares nothing.
pub use Rattle.sc_lex.specs.Cutting.{Cuts, IsCut, IsGap, IsStuck, IsToken, RefusesBytes, allows_directive}
pub use Rattle.sc_lex.specs.Cutting.{begins_block_comment, begins_line_comment, block_comment, ends_comment, gap}
pub use Rattle.sc_lex.specs.Cutting.{line_comment, nothing, token, token_at, white_space}
pub use Rattle.sc_lex.specs.Headings.{begins_heading, is_heading, name_at}
unfoldable pub use Rattle.sc_lex.specs.Headings.{heading_name}
pub use Rattle.sc_lex.specs.Integers.{digit_value, digits_of, greatest_of, has_suffix, is_digit_of, is_hexadecimal}
pub use Rattle.sc_lex.specs.Integers.{digits_number}
pub use Rattle.sc_lex.specs.Integers.{radix_of, value_of, without_suffix}
unfoldable pub use Rattle.sc_lex.specs.Integers.{integer_of, is_integer_constant, is_number_within}
pub use Rattle.sc_lex.specs.Kinds.{directive_kind, is_directive, is_export, is_import, is_pragma, mark_kind, may_follow}
unfoldable pub use Rattle.sc_lex.specs.Kinds.{token_kind, line_kind, word_kind}
pub use Rattle.sc_lex.specs.Lines.{begins_line, line_text, is_blank, is_inside_line, is_white_space, line_after}
pub use Rattle.sc_lex.specs.Lines.{line_at, line_len, newlines}
pub use Rattle.sc_lex.specs.Pieces.{IsPiece, NoPiece, NoToken, placed}
pub use Rattle.sc_lex.specs.Spans.{AreSpans, IsSpan}
pub use Rattle.sc_lex.specs.Splitting.{AreSections, IsBadHeading, IsSection, IsSplit, NoHeading, RefusesHeading, none}
pub use Rattle.sc_lex.specs.Splitting.{section}
pub use Rattle.sc_lex.specs.Tables.{marks}
unfoldable pub use Rattle.sc_lex.specs.Tables.{is_mark}
pub use Rattle.sc_lex.specs.Words.{is_empty, only_name}
unfoldable pub use Rattle.sc_lex.specs.Words.{words}
pub use Rattle.sc_lex.specs.declared.refusal.Phase.TheVariants.{Lex}
pub use Rattle.sc_lex.specs.declared.refusal.Refusal.{Refusal}
