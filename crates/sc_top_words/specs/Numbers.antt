-- Lists of numbers, as texts.
use Rattle.std.specs.Prelude.{ℕ, ℤ, Bool, ◌==◌, nat_le, if◌then◌else◌, List, [], ◌∷◌, length}
use Rattle.std.specs.Prelude.{Option, Some, None, option_and_then, option_map}
use Rattle.std.specs.List.{list_any, before_first, after_first}
use Rattle.sc_number.specs.Numbers.{integer}

abbrev pub is_comma : ℕ → Bool
is_comma byte = byte == 44

abbrev pub onto_first : ℕ → List (List ℕ) → List (List ℕ)
onto_first byte [] = (byte ∷ []) ∷ []
onto_first byte (piece ∷ pieces) = (byte ∷ piece) ∷ pieces

-- what stands before, between and after the commas of a text
unfoldable pub pieces : List ℕ → List (List ℕ)
pieces [] = [] ∷ []
pieces (byte ∷ rest) = if is_comma byte then [] ∷ pieces rest else onto_first byte (pieces rest)

-- the first of the pieces, and the text of the others if there are more
abbrev pub first_piece : List ℕ → List ℕ
first_piece text = before_first is_comma text

abbrev pub pieces_after : List ℕ → Option (List ℕ)
pieces_after text = if list_any is_comma text then Some (after_first is_comma text) else None

abbrev pub prepended : Option ℤ → Option (List ℤ) → Option (List ℤ)
prepended first rest = option_and_then (λ x. option_map (λ xs. x ∷ xs) rest) first

-- each text as an integer
unfoldable pub integers : List (List ℕ) → Option (List ℤ)
integers [] = Some []
integers (text ∷ rest) = prepended (integer text) (integers rest)

-- a list of 1 to 65,536 integers with single commas between them
abbrev pub integer_list : List ℕ → Option (List ℤ)
integer_list text = if nat_le (length (pieces text)) 65536 then integers (pieces text) else None
