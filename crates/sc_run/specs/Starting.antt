-- Helping: the cells with which globals begin.
use Rattle.sc_run.specs.Common.{Null, Ptr, Undef, Word}
use Rattle.std.specs.Prelude.{ℕ, Option, None, Some}
use Rattle.sc_core.specs.declared.value.Cell.{Cell}

-- a cell that begins with this word, if there is one; a pointer is given null
abbrev pub cell_with : Option ℕ → Cell → Cell
cell_with None cell = cell
cell_with (Some word) Null = Null
cell_with (Some word) Undef = Word word
cell_with (Some word) (Word w) = Word word
cell_with (Some word) (Ptr p) = Word word
