-- Helping: gaps and tokens under one name, as the loop over the bytes sees them.
use Rattle.std.specs.Prelude.{ℕ, ◌+◌, Bool, List, [], ◌∷◌}
use Rattle.sc_lex.specs.Cutting.{IsGap, IsToken}
use Rattle.sc_lex.specs.declared.token.Token.{Token}
use Rattle.sc_lex.specs.declared.token.TokenKind.{TokenKind}
use Rattle.sc_lex.specs.declared.cut.Piece.{Piece}
use Rattle.sc_lex.specs.declared.cut.Piece.TheVariants as pieces

-- no token is at the start of a text, also where directives are allowed
abbrev pub NoToken : List ℕ → Type 0
NoToken text = (directives : Bool) (kind : TokenKind) (len : ℕ) → IsToken directives text kind len → ⊥

-- the prefix of length `len` of a text is this piece
abbrev pub IsPiece : Bool → List ℕ → Piece → ℕ → Type 0
IsPiece directives text pieces.Gap len = IsGap text len
IsPiece directives text (pieces.Token kind) len = IsToken directives text kind len

-- no piece is at the start of a text
abbrev pub NoPiece : Bool → List ℕ → Type 0
NoPiece directives text = (piece : Piece) (len : ℕ) → IsPiece directives text piece len → ⊥

-- the tokens that a piece at this place and in this line is
abbrev pub placed : Piece → ℕ → ℕ → ℕ → List Token
placed pieces.Gap start len line = []
placed (pieces.Token kind) start len line = record { kind = kind; start = start; end = start + len; line = line } ∷ []
