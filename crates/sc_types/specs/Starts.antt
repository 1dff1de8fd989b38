-- Helping: the places of a text at which its sections begin.
use Rattle.sc_types.specs.Common.{IsSplit, ProgramTree, Section}
use Rattle.std.specs.Prelude.{◌≡◌, ℕ, List, [], ◌∷◌, length, map, take, slice_range}
use Rattle.sc_types.specs.Acceptance.{Accepts}
use Rattle.sc_types.specs.Source.{SourceParts}

abbrev pub start_of : Section → ℕ
start_of section = section.start

-- the sections of the text begin at these places
pub record AreStarts (text starts : List ℕ) : Type 0 where
  pub preamble : List ℕ
  pub found : List Section
  pub split : IsSplit text preamble found
  pub places : starts ≡ map start_of found

-- the first of the places, or the end of the text
abbrev pub first_start : List ℕ → (starts : List ℕ) → ℕ
first_start text [] = length text
first_start text (start ∷ starts) = start

-- the bytes from each place to the next one
abbrev pub parts_from : List ℕ → (starts : List ℕ) → List (List ℕ)
parts_from text [] = []
parts_from text (start ∷ starts) = slice_range text start (first_start text starts) ∷ parts_from text starts

abbrev pub source_of : List ℕ → (starts : List ℕ) → ProgramTree → SourceParts
source_of text starts program = record {
  bytes = text;
  preamble = take (first_start text starts) text;
  sections = parts_from text starts;
  program = program;
}

-- what is kept of a text with the places of its sections and its program
pub record IsKept (text starts : List ℕ) (program : ProgramTree) : Type 0 where
  pub accepted : Accepts text program
  pub starts_are : AreStarts text starts
