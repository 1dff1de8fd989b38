-- How types are spelled that are no arrays (C11 6.7.2, 6.7.7).
use Rattle.sc_parse_expr.specs.Common.{BaseTree, TypeName}
use Rattle.std.specs.Prelude.{ℕ, ◌+◌, List, [], ◌∷◌, ◌++◌}
use Rattle.sc_ast.specs.declared.types.BaseTree.TheVariants as base
use Rattle.sc_parse_expr.specs.declared.lexeme.Lexeme.{Lexeme}
use Rattle.sc_parse_expr.specs.declared.mark.Keyword.TheVariants as word
use Rattle.sc_parse_expr.specs.declared.mark.Mark.TheVariants as mark
use Rattle.sc_parse_expr.specs.Lexemes.{IsIdent, IsKeyword, IsMark}

-- What a declaration begins with.
pub data SpellsBase : List Lexeme → BaseTree → Type 0 where
  int : (t : Lexeme) → IsKeyword word.Int t → SpellsBase (t ∷ []) base.Int
  signed : (t : Lexeme) → IsKeyword word.Signed t → SpellsBase (t ∷ []) base.Int
  signed_int : (t u : Lexeme) → IsKeyword word.Signed t → IsKeyword word.Int u → SpellsBase (t ∷ u ∷ []) base.Int
  unsigned : (t : Lexeme) → IsKeyword word.Unsigned t → SpellsBase (t ∷ []) base.Unsigned
  unsigned_int : (t u : Lexeme) → IsKeyword word.Unsigned t → IsKeyword word.Int u →
      SpellsBase (t ∷ u ∷ []) base.Unsigned
  struct : (t u : Lexeme) (tag : List ℕ) → IsKeyword word.Struct t → IsIdent tag u →
      SpellsBase (t ∷ u ∷ []) (base.Struct tag)

-- `*`, this number of times.
pub data SpellsStars : List Lexeme → ℕ → Type 0 where
  none : SpellsStars [] 0
  star : {ts : List Lexeme} {stars : ℕ} (t : Lexeme) → IsMark mark.Star t → SpellsStars ts stars →
      SpellsStars (t ∷ ts) (stars + 1)

-- A type that is no array: that of a parameter, of a result, or under `sizeof`.
pub data SpellsTypeName : List Lexeme → TypeName → Type 0 where
  type_name : {ts us : List Lexeme} {base : BaseTree} {stars : ℕ} → SpellsBase ts base → SpellsStars us stars →
      SpellsTypeName (ts ++ us) (record { base = base; stars = stars })
