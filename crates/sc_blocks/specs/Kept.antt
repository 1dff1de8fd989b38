-- Helping: how the cells of a block are kept.
use Rattle.std.specs.Prelude.{List, [], ◌∷◌}
use Rattle.sc_core.specs.declared.value.Cell.{Cell}
use Rattle.sc_blocks.specs.declared.cells.Kept.{Kept}
use Rattle.sc_blocks.specs.declared.cells.Kept.TheVariants.{One, Many}

-- one cell by itself, or a list
abbrev pub kept_cells : Kept → List Cell
kept_cells (One cell) = cell ∷ []
kept_cells (Many cells) = cells
