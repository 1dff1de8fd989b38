-- Lists as they are spelled.
use Rattle.sc_parse.specs.Common.{IsMark, Lexeme, Number}
use Rattle.std.specs.Prelude.{◌≡◌, List, [], ◌∷◌, ◌++◌}
use Rattle.sc_parse_expr.specs.declared.mark.Mark.TheVariants as mark
use Rattle.sc_parse_expr.specs.declared.lexeme.Symbol.TheVariants as symbol
pub use Rattle.sc_parse_expr.specs.Lexemes.{IsKeyword}
pub use Rattle.sc_parse_expr.specs.Prefixes.{first_line}

-- the lexeme is this integer
abbrev pub IsInteger : Number → Lexeme → Type 0
IsInteger number t = t.symbol ≡ symbol.Integer number

-- One item or more, with commas between them.
pub data Separated {A : Type 0} (Item : List Lexeme → A → Type 0) : List Lexeme → List A → Type 0 where
  one : {ts : List Lexeme} {x : A} → Item ts x → Separated Item ts (x ∷ [])
  more : {ts us : List Lexeme} {x : A} {xs : List A} (t : Lexeme) → IsMark mark.Comma t → Item ts x →
      Separated Item us xs → Separated Item (ts ++ t ∷ us) (x ∷ xs)

-- Groups of items, one after another.
pub data Grouped {A : Type 0} (Group : List Lexeme → List A → Type 0) : List Lexeme → List A → Type 0 where
  none : Grouped Group [] []
  next : {ts us : List Lexeme} {xs ys : List A} → Group ts xs → Grouped Group us ys →
      Grouped Group (ts ++ us) (xs ++ ys)
