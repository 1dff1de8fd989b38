-- What tokens say.
use Rattle.sc_parse_expr.specs.Common.{Number, ident_of, name_of, number_typed}
use Rattle.sc_lex.specs.Prelude.{heading_name, integer_of, words}
use Rattle.std.specs.Prelude.{◌≡◌, ℕ, bytes_eq, codes, List, [], ◌∷◌, get_or, slice_range, Option, Some, None}
use Rattle.std.specs.Prelude.{if◌then◌else◌}
use Rattle.std.specs.Option.{option_map, option_and_then}
use Rattle.sc_lex.specs.declared.token.Token.{Token}
use Rattle.sc_lex.specs.declared.token.TokenKind.{TokenKind}
use Rattle.sc_lex.specs.declared.token.TokenKind.TheVariants as kind
use Rattle.sc_parse_expr.specs.declared.mark.Mark.{Mark}
use Rattle.sc_parse_expr.specs.declared.mark.Mark.TheVariants as mark
use Rattle.sc_parse_expr.specs.declared.mark.Keyword.{Keyword}
use Rattle.sc_parse_expr.specs.declared.mark.Keyword.TheVariants as word
use Rattle.sc_parse_expr.specs.declared.lexeme.Symbol.{Symbol}
use Rattle.sc_parse_expr.specs.declared.lexeme.Symbol.TheVariants as symbol
use Rattle.sc_parse_expr.specs.declared.lexeme.Lexeme.{Lexeme}

-- what stands beside a text in a table
abbrev pub look_up : {A : Type 0} → List (List ℕ × A) → List ℕ → Option A
look_up [] text = None
look_up (row ∷ rows) text = if bytes_eq row.0 text then Some row.1 else look_up rows text

-- the text of each mark
abbrev pub mark_texts : List (List ℕ × Mark)
mark_texts =
    (codes "+", mark.Plus) ∷ (codes "-", mark.Minus) ∷ (codes "*", mark.Star) ∷ (codes "/", mark.Slash) ∷
    (codes "%", mark.Percent) ∷ (codes "<<", mark.LessLess) ∷ (codes ">>", mark.GreaterGreater) ∷
    (codes "<", mark.Less) ∷ (codes ">", mark.Greater) ∷ (codes "<=", mark.LessEqual) ∷
    (codes ">=", mark.GreaterEqual) ∷ (codes "==", mark.EqualEqual) ∷ (codes "!=", mark.NotEqual) ∷
    (codes "&", mark.And) ∷ (codes "^", mark.Caret) ∷ (codes "|", mark.Or) ∷ (codes "&&", mark.AndAnd) ∷
    (codes "||", mark.OrOr) ∷ (codes "!", mark.Not) ∷ (codes "~", mark.Tilde) ∷ (codes "=", mark.Equal) ∷
    (codes "+=", mark.PlusEqual) ∷ (codes "-=", mark.MinusEqual) ∷ (codes "*=", mark.StarEqual) ∷
    (codes "/=", mark.SlashEqual) ∷ (codes "%=", mark.PercentEqual) ∷ (codes "<<=", mark.LessLessEqual) ∷
    (codes ">>=", mark.GreaterGreaterEqual) ∷ (codes "&=", mark.AndEqual) ∷ (codes "^=", mark.CaretEqual) ∷
    (codes "|=", mark.OrEqual) ∷ (codes "++", mark.PlusPlus) ∷ (codes "--", mark.MinusMinus) ∷
    (codes ".", mark.Dot) ∷ (codes "->", mark.Arrow) ∷ (codes "(", mark.OpenParen) ∷
    (codes ")", mark.CloseParen) ∷ (codes "[", mark.OpenSquare) ∷ (codes "]", mark.CloseSquare) ∷
    (codes "{", mark.OpenCurly) ∷ (codes "}", mark.CloseCurly) ∷ (codes ",", mark.Comma) ∷
    (codes ";", mark.Semicolon) ∷ []

-- the text of each reserved word that has a place in the grammar
abbrev pub keyword_texts : List (List ℕ × Keyword)
keyword_texts =
    (codes "break", word.Break) ∷ (codes "continue", word.Continue) ∷ (codes "else", word.Else) ∷
    (codes "for", word.For) ∷ (codes "free", word.Free) ∷ (codes "if", word.If) ∷ (codes "int", word.Int) ∷
    (codes "malloc", word.Malloc) ∷ (codes "return", word.Return) ∷ (codes "signed", word.Signed) ∷
    (codes "sizeof", word.Sizeof) ∷ (codes "struct", word.Struct) ∷ (codes "unsigned", word.Unsigned) ∷
    (codes "void", word.Void) ∷ (codes "while", word.While) ∷ []

unfoldable pub mark_of : List ℕ → Option Mark
mark_of text = look_up mark_texts text

unfoldable pub keyword_of : List ℕ → Option Keyword
keyword_of text = look_up keyword_texts text

-- the value and the type of an integer constant
abbrev pub number_in : List ℕ → Option Number
number_in text = option_and_then (λ constant. number_typed constant.value constant.unsigned) (integer_of text)

abbrev pub ident_in : List ℕ → Option (List ℕ)
ident_in text = option_and_then (λ name. ident_of name) (name_of text)

-- the third and the fourth word of a directive
abbrev pub third_word : List ℕ → Option (List ℕ)
third_word text = name_of (get_or (words text) 2 [])

abbrev pub fourth_word : List ℕ → Option (List ℕ)
fourth_word text = name_of (get_or (words text) 3 [])

abbrev pub import_symbol : Option (List ℕ) → Option (List ℕ) → Option Symbol
import_symbol (Some comp) (Some name) = Some (symbol.Import comp name)
import_symbol _ _ = None

-- what a token of a kind says by its text, where the text is of the kind
unfoldable pub says : TokenKind → List ℕ → Option Symbol
says kind.Ident text = option_map (λ name. symbol.Ident name) (ident_in text)
says kind.Integer text = option_map (λ number. symbol.Integer number) (number_in text)
says kind.Mark text = option_map (λ m. symbol.Mark m) (mark_of text)
says kind.Reserved text = option_map (λ w. symbol.Keyword w) (keyword_of text)
says kind.Compartment text = option_map (λ name. symbol.Compartment name) (heading_name text)
says kind.Export text = option_map (λ name. symbol.Export name) (third_word text)
says kind.Import text = import_symbol (third_word text) (fourth_word text)

-- a token that says nothing else is a word that nothing is spelled with, as reserved words are that have no place in
-- the grammar
abbrev pub or_unused : Option Symbol → Symbol
or_unused None = symbol.Keyword word.Unused
or_unused (Some what) = what

-- what a token of these bytes says
abbrev pub symbol_of : List ℕ → Token → Symbol
symbol_of bytes token = or_unused (says token.kind (slice_range bytes token.start token.end))

-- a token of these bytes as a lexeme
abbrev pub lexeme_of : List ℕ → Token → Lexeme
lexeme_of bytes token = record { symbol = symbol_of bytes token; line = token.line }

-- the lexeme is this mark
abbrev pub IsMark : Mark → Lexeme → Type 0
IsMark m t = t.symbol ≡ symbol.Mark m

-- the lexeme is this identifier
abbrev pub IsIdent : List ℕ → Lexeme → Type 0
IsIdent name t = t.symbol ≡ symbol.Ident name

-- the lexeme is this reserved word
abbrev pub IsKeyword : Keyword → Lexeme → Type 0
IsKeyword word t = t.symbol ≡ symbol.Keyword word
