-- How declarators are spelled (C11 6.7.6).
use Rattle.sc_parse.specs.Common.{BaseTree, IsIdent, IsMark, Lexeme, Number, TypeTree, array_length}
use Rattle.std.specs.Prelude.{◌≡◌, ℕ, List, [], ◌∷◌, ◌++◌, Some, None}
use Rattle.sc_parse_expr.specs.declared.mark.Mark.TheVariants as mark
use Rattle.sc_parse.specs.Lists.{IsInteger}
pub use Rattle.sc_parse_expr.specs.Types.{SpellsBase, SpellsStars, SpellsTypeName, int, none, signed, signed_int, star}
pub use Rattle.sc_parse_expr.specs.Types.{struct, type_name, unsigned, unsigned_int}

-- What a declarator after this base declares: a type and a name.
pub data SpellsDeclarator (base : BaseTree) : List Lexeme → TypeTree → List ℕ → Type 0 where
  plain : {ts : List Lexeme} {stars : ℕ} (t : Lexeme) (name : List ℕ) → IsIdent name t → SpellsStars ts stars →
      SpellsDeclarator base (ts ++ t ∷ []) (record { base = base; stars = stars; length = None }) name
  array : {ts : List Lexeme} {stars : ℕ} (t u v w : Lexeme) (name : List ℕ) (number : Number) (elements : ℕ) →
      IsIdent name t → IsMark mark.OpenSquare u → IsInteger number v → IsMark mark.CloseSquare w →
      array_length number.value ≡ Some elements → SpellsStars ts stars →
      SpellsDeclarator base (ts ++ t ∷ u ∷ v ∷ w ∷ [])
      (record { base = base; stars = stars; length = Some elements }) name
