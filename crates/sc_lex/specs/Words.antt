-- The words of a line.
use Rattle.sc_base.specs.Prelude.{name_of}
use Rattle.std.specs.Prelude.{ℕ, Bool, not, ◌==◌, List, [], ◌∷◌, length, filter, Option, None}
use Rattle.std.specs.List.{slice_split}
use Rattle.sc_lex.specs.Lines.{is_blank}

abbrev pub is_empty : List ℕ → Bool
is_empty text = length text == 0

-- what stands between the blanks of a line
unfoldable pub words : List ℕ → List (List ℕ)
words line = filter (λ word. not (is_empty word)) (slice_split is_blank line)

-- the only word, where it is an identifier of at most 63 bytes
abbrev pub only_name : List (List ℕ) → Option (List ℕ)
only_name [] = None
only_name (word ∷ []) = name_of word
only_name (word ∷ other ∷ more) = None
