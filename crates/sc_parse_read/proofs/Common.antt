-- The names that several proofs of this crate cite, passed on from one place. Declares nothing.
pub use Rattle.std.proofs.Common.{Any, Bool, Err, IfOk, IsTrue, List, None, Ok, Option, Result, Some, [], ap, ap₂}
pub use Rattle.std.proofs.Common.{arith, codes, drop, false, get_or, get_or-take, inl, inr, is_some, length}
pub use Rattle.std.proofs.Common.{length-drop, length-take-le, lt-ltb, ltb, ltb-true, map, refl, slice_get, slice_index}
pub use Rattle.std.proofs.Common.{slice_range, slice_set, subst, suc, sym, take, take-append-drop, true, zero, ℕ}
pub use Rattle.std.proofs.Common.{⊎_elim, ◌++◌, ◌+◌, ◌-◌, ◌<◌, ◌∙◌, ◌∷◌, ◌≡◌, ◌≤◌, ◌⊎◌}
pub use Rattle.std.proofs.lemmas.Bool.{and_parts, cases_lt, false≢true}
pub use Rattle.std.proofs.lemmas.Option.{none-some}
pub use Rattle.std.proofs.lemmas.Result.{err_from_is_err_and}
pub use Rattle.std.specs.List.{AllByRecursion, AllZip}
pub use Rattle.sc_lex.proofs.Gaps.{gap_fits, one_gap, same_unless, slash_first, star_first, token_positive}
pub use Rattle.sc_lex.proofs.Wording.{begins_with, prefix_byte}
pub use Rattle.sc_lex.specs.Prelude.{AreSections, Cuts, IsBadHeading, IsCut, IsGap, IsSection, IsSplit, IsStuck}
pub use Rattle.sc_lex.specs.Prelude.{IsToken, NoHeading, RefusesBytes, RefusesHeading, allows_directive}
pub use Rattle.sc_lex.specs.Prelude.{begins_block_comment, begins_line, begins_line_comment, block_comment}
pub use Rattle.sc_lex.specs.Prelude.{ends_comment, gap, is_directive, is_heading, is_white_space, token_kind}
pub use Rattle.sc_lex.specs.Prelude.{line_after}
pub use Rattle.sc_lex.specs.Prelude.{line_at, line_comment, line_len, may_follow, name_at, newlines, none, nothing}
pub use Rattle.sc_lex.specs.Prelude.{section, token, token_at, white_space}
pub use Rattle.sc_lex.specs.declared.fault.TextFault.TheVariants.{Refused}
pub use Rattle.sc_lex.specs.declared.refusal.Phase.{Phase}
pub use Rattle.sc_lex.specs.declared.refusal.Refusal.{Refusal}
pub use Rattle.sc_lex.specs.declared.token.TokenKind.{TokenKind}
pub use Rattle.sc_parse_expr.specs.declared.lexeme.Lexeme.{Lexeme}
pub use Rattle.sc_parse.specs.Prelude.{IsParsed, SpellsSection, lexemes_of, tree_of}
pub use Rattle.sc_parse_read.specs.Common.{Section, SectionTree, Token}
pub use Rattle.sc_parse_read.specs.First.{First, here, later}
pub use Rattle.sc_parse_read.specs.Reading.{FailsLex, FailsReading, FailsSyntax, HasTokens, HasTree, IsRead, IsUncut}
pub use Rattle.sc_parse_read.specs.Reading.{IsUnread, PassesLex, Reads, TextPart, bad_heading, in_preamble, in_section}
pub use Rattle.sc_parse_read.specs.Reading.{part_of, parts_of, uncut}
pub use Rattle.sc_parse_read.specs.Steps.{IsCutInto, IsCuttable, IsParsable, IsTreeOf, RefusesTokens}
