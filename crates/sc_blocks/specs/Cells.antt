-- Helping: a store into one block, or into one of a list of blocks.
use Rattle.sc_core.specs.Prelude.{Block, bind, living}
use Rattle.std.specs.Prelude.{ℕ, List, Option, None, Some, Result, Ok, Err, slice_get, slice_set}
use Rattle.sc_core.specs.declared.cause.Cause.{Cause}
use Rattle.sc_core.specs.declared.cause.Cause.TheVariants.{OutOfBounds}
use Rattle.sc_core.specs.declared.value.Cell.{Cell}
use Rattle.sc_blocks.specs.Rows.{put_in}
use Rattle.sc_blocks.specs.declared.slots.Slot.{Slot}

-- the block once the cell at an index is another
abbrev pub stored_in : Block → ℕ → Cell → Result Block Cause
stored_in block index cell = bind (living (Some block))
    (λ block. bind (put_in block.cells index cell) (λ cells. Ok (record block { cells = cells })))

-- the slots once the cell at an index of one of them is another
abbrev pub put_into : List Slot → (at index : ℕ) → Cell → Option Slot → Result (List Slot) Cause
put_into slots at index cell None = Err OutOfBounds
put_into slots at index cell (Some slot) =
    bind (put_in slot.cells index cell) (λ cells. Ok (slice_set slots at (record slot { cells = cells })))

abbrev pub put_at : List Slot → (at index : ℕ) → Cell → Result (List Slot) Cause
put_at slots at index cell = put_into slots at index cell (slice_get slots at)
