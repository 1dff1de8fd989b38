-- How types are printed.
use Rattle.std.specs.Prelude.{ℕ, nat_lt, codes, List, [], ◌∷◌, ◌++◌, replicate}
use Rattle.sc_ast.specs.Pieces.{Piece, word, blank, blank_if}
use Rattle.sc_ast.specs.declared.types.BaseTree.{BaseTree}
use Rattle.sc_ast.specs.declared.types.BaseTree.TheVariants as base
use Rattle.sc_ast.specs.declared.types.TypeName.{TypeName}

abbrev pub base_words : BaseTree → List Piece
base_words base.Int = word (codes "int") ∷ []
base_words base.Unsigned = word (codes "unsigned") ∷ blank ∷ word (codes "int") ∷ []
base_words (base.Struct tag) = word (codes "struct") ∷ blank ∷ word tag ∷ []

-- `*`, `stars` times
abbrev pub star_words : ℕ → List Piece
star_words stars = replicate stars (word (codes "*"))

-- `int`, `int *`
abbrev pub type_words : TypeName → List Piece
type_words ty = base_words ty.base ++ (blank_if (nat_lt 0 ty.stars) ++ star_words ty.stars)
