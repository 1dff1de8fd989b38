-- The lines of a text, and the words of a line.
use Rattle.sc_base.specs.Prelude.{Text}
use Rattle.std.specs.Prelude.{ℕ, ◌==◌, List, [], ◌∷◌, ◌++◌, flat_map, if◌then◌else◌}
use Rattle.std.specs.List.{slice_split}

-- a byte that stands before the first line belongs to it, if there is one
abbrev pub onto_line : ℕ → List Text → List Text
onto_line byte [] = []
onto_line byte (line ∷ lines) = (byte ∷ line) ∷ lines

-- the lines without the newlines that end them: what follows the last newline is no line
abbrev pub lines_of : List ℕ → List Text
lines_of [] = []
lines_of (byte ∷ rest) = if byte == 10 then [] ∷ lines_of rest else onto_line byte (lines_of rest)

-- the bytes of lines
abbrev pub bytes_of : List Text → List ℕ
bytes_of lines = flat_map (λ line. line ++ 10 ∷ []) lines

-- what stands before, between and after the single spaces of a line
abbrev pub words_of : Text → List Text
words_of line = slice_split (λ byte. byte == 32) line
