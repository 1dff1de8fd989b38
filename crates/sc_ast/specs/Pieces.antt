-- A printed text as words and the white space between them.
use Rattle.std.specs.Prelude.{ℕ, ◌+◌, ◌*◌, Bool, true, false, codes, List, [], ◌∷◌, ◌++◌, replicate}
use Rattle.std.specs.List.{flat_map}
use Rattle.sc_ast.specs.Height.{limited}

-- A word of the language, a blank, the indentation of a line by this number of levels, or the end of a line.
pub data Piece : Type 0 where
  word : List ℕ → Piece
  blank : Piece
  indent : ℕ → Piece
  newline : Piece

-- a level is two blanks
abbrev pub piece_text : Piece → List ℕ
piece_text (word text) = text
piece_text blank = codes " "
piece_text (indent levels) = replicate (2 * levels) 32
piece_text newline = 10 ∷ []

-- the bytes of a text
abbrev pub text_of : List Piece → List ℕ
text_of pieces = flat_map piece_text pieces

-- `(` and `)` where they are wanted
abbrev pub opened : Bool → List Piece
opened true = word (codes "(") ∷ []
opened false = []

abbrev pub closed : Bool → List Piece
closed true = word (codes ")") ∷ []
closed false = []

abbrev pub in_parens : Bool → List Piece → List Piece
in_parens wanted pieces = opened wanted ++ (pieces ++ closed wanted)

-- a blank where it is wanted
abbrev pub blank_if : Bool → List Piece
blank_if true = blank ∷ []
blank_if false = []

-- `, ` between two items
abbrev pub comma : List Piece
comma = word (codes ",") ∷ blank ∷ []

-- one level deeper, where 4,294,967,295 is the last
abbrev pub deeper : ℕ → ℕ
deeper depth = limited (depth + 1)

-- a line of its own at a level
abbrev pub line_of : ℕ → List Piece → List Piece
line_of depth pieces = indent depth ∷ (pieces ++ newline ∷ [])
