-- The kind of token that a text is.
use Rattle.sc_base.specs.Prelude.{is_name, is_name_byte, is_reserved}
use Rattle.std.specs.Prelude.{ℕ, Bool, true, false, not, ◌&&◌, ◌==◌, bytes_eq, codes, List, [], ◌∷◌, slice_index}
use Rattle.std.specs.Prelude.{Option, Some, None, is_some, if◌then◌else◌}
use Rattle.std.specs.List.{list_all}
use Rattle.std.specs.Option.{option_or}
use Rattle.sc_lex.specs.Lines.{is_inside_line}
use Rattle.sc_lex.specs.Words.{words}
use Rattle.sc_lex.specs.Headings.{heading_name}
use Rattle.sc_lex.specs.Tables.{is_mark}
use Rattle.sc_lex.specs.Integers.{is_integer_constant}
use Rattle.sc_lex.specs.declared.token.TokenKind.{TokenKind}
use Rattle.sc_lex.specs.declared.token.TokenKind.TheVariants.{Ident, Reserved, Integer, Mark, Compartment, Export}
use Rattle.sc_lex.specs.declared.token.TokenKind.TheVariants.{Import}

-- the words `#pragma export` and a name
abbrev pub is_export : List (List ℕ) → Bool
is_export (pragma ∷ verb ∷ name ∷ []) = bytes_eq pragma (codes "#pragma") && bytes_eq verb (codes "export") &&
    is_name name
is_export _ = false

-- the words `#pragma import` and two names
abbrev pub is_import : List (List ℕ) → Bool
is_import (pragma ∷ verb ∷ comp ∷ name ∷ []) = bytes_eq pragma (codes "#pragma") && bytes_eq verb (codes "import") &&
    is_name comp && is_name name
is_import _ = false

-- the kind of directive that a line is
unfoldable pub line_kind : List ℕ → Option TokenKind
line_kind line =
    if is_some (heading_name line) then Some Compartment
    else (if is_export (words line) then Some Export
    else (if is_import (words line) then Some Import
    else None))

-- a directive is one line, without its newline, that begins with `#`
abbrev pub is_pragma : List ℕ → Bool
is_pragma text = slice_index text 0 == 35 && list_all (λ byte. is_inside_line byte) text

unfoldable pub word_kind : List ℕ → Option TokenKind
word_kind text =
    if is_reserved text then Some Reserved
    else (if is_name text then Some Ident
    else (if is_integer_constant text then Some Integer
    else None))

abbrev pub mark_kind : List ℕ → Option TokenKind
mark_kind text = if is_mark text then Some Mark else None

abbrev pub directive_kind : List ℕ → Option TokenKind
directive_kind text = if is_pragma text then line_kind text else None

-- the kind of token that all of a text is, where it is one
unfoldable pub token_kind : List ℕ → Option TokenKind
token_kind text = option_or (word_kind text) (option_or (mark_kind text) (directive_kind text))

-- this byte may follow a token of this kind directly: letters, digits and `_` stand apart from identifiers
-- and integers, and directives are whole lines
abbrev pub may_follow : TokenKind → ℕ → Bool
may_follow Mark byte = true
may_follow Ident byte = not (is_name_byte byte)
may_follow Reserved byte = not (is_name_byte byte)
may_follow Integer byte = not (is_name_byte byte)
may_follow Compartment byte = byte == 10
may_follow Export byte = byte == 10
may_follow Import byte = byte == 10

abbrev pub is_directive : TokenKind → Bool
is_directive Compartment = true
is_directive Export = true
is_directive Import = true
is_directive _ = false
