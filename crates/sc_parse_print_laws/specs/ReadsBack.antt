-- Helping: what it means that printed texts read back.
use Rattle.sc_parse_print_laws.specs.Common.{ExprTree, IsCut, Lexeme, Spells, Token, expr_words, lexeme_of}
use Rattle.sc_parse_print_laws.specs.Common.{loosest_level, text_of}
use Rattle.std.specs.Prelude.{◌≡◌, ℕ, List, map}
use Rattle.sc_parse_print_laws.specs.Symbols.{symbols}

-- lexemes that say what the words of the expression say spell it, whatever their lines
abbrev pub WordsSpell : ExprTree → Type 0
WordsSpell expr = (lexemes : List Lexeme) → map (λ t. t.symbol) lexemes ≡ symbols (expr_words expr) →
    Spells loosest_level lexemes expr

-- the bytes of the expression as it is printed
abbrev pub expr_text : ExprTree → List ℕ
expr_text expr = text_of (expr_words expr)

-- The bytes are cut into tokens, and these spell the expression.
pub record ReadsAs (bytes : List ℕ) (expr : ExprTree) : Type 0 where
  pub tokens : List Token
  pub cut : IsCut bytes tokens
  pub spelled : Spells loosest_level (map (λ token. lexeme_of bytes token) tokens) expr
