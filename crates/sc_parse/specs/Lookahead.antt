-- Helping: what a list of lexemes begins with.
use Rattle.sc_parse.specs.Common.{Keyword, Lexeme, Mark, Number, Symbol, following, name_by, ◌>>=◌}
use Rattle.std.specs.Prelude.{Bool, true, false, ◌&&◌, List, [], ◌∷◌, Option, Some, None, is_some}
use Rattle.std.specs.Prelude.{if◌then◌else◌}
use Rattle.sc_parse_expr.specs.declared.mark.Keyword.TheVariants as word
use Rattle.sc_parse_expr.specs.declared.mark.Mark.TheVariants as mark
use Rattle.sc_parse_expr.specs.declared.lexeme.Symbol.TheVariants as symbol
pub use Rattle.sc_parse_expr.specs.Prefixes.{begins_with, keyword_at, keyword_by}
pub use Rattle.sc_parse_expr.specs.TypeReaders.{Reader, is_int, past_int}
unfoldable pub use Rattle.sc_parse_expr.specs.TypeReaders.{star_count}

-- a value that was read, where this mark follows it
abbrev pub ended_by : {A : Type 0} → Mark → A → Reader A
ended_by m x ts = following m ts >>= (λ rest. Some (x, rest))

abbrev pub is_void : Option Keyword → Bool
is_void (Some word.Void) = true
is_void _ = false

abbrev pub is_else : Option Keyword → Bool
is_else (Some word.Else) = true
is_else _ = false

-- the words that a declaration of variables begins with
abbrev pub is_base : Option Keyword → Bool
is_base (Some word.Int) = true
is_base (Some word.Signed) = true
is_base (Some word.Unsigned) = true
is_base (Some word.Struct) = true
is_base _ = false

abbrev pub integer_by : Symbol → Option Number
integer_by (symbol.Integer number) = Some number
integer_by _ = None

-- the lexemes begin with an identifier and `(`
abbrev pub begins_call : List Lexeme → Bool
begins_call [] = false
begins_call (t ∷ ts) = is_some (name_by t.symbol) && begins_with mark.OpenParen ts

-- the lexemes after a comma, where more follows in the braces
abbrev pub after_inner_comma : List Lexeme → Option (List Lexeme)
after_inner_comma [] = None
after_inner_comma (t ∷ ts) = if begins_with mark.CloseCurly ts then None else following mark.Comma (t ∷ ts)
