-- Helping: what printed words say.
use Rattle.sc_parse_print_laws.specs.Common.{Piece, Symbol, token_kind, or_unused, says, word}
use Rattle.std.specs.Prelude.{List, [], ◌∷◌, ℕ}
use Rattle.std.specs.List.{flat_map}
use Rattle.std.specs.Option.{option_and_then}

-- what a word says as a token of its kind
unfoldable pub word_symbol : List ℕ → Symbol
word_symbol text = or_unused (option_and_then (λ kind. says kind text) (token_kind text))

abbrev pub piece_symbols : Piece → List Symbol
piece_symbols (word text) = word_symbol text ∷ []
piece_symbols _ = []

-- what the words among pieces say, in order
abbrev pub symbols : List Piece → List Symbol
symbols pieces = flat_map piece_symbols pieces
