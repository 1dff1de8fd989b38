-- Rows of blocks as a memory, and loads and stores of single cells (C11 6.2.4, 6.5.3.2, 6.5.6).
use Rattle.sc_core.specs.Prelude.{Block, Blocks, Memory, allocated_at, bind, cells_at, ended, freed, is_live}
use Rattle.sc_core.specs.Prelude.{living, spans_of}
unfoldable use Rattle.sc_zone.specs.Prelude.{least_free}
use Rattle.std.specs.Prelude.{ℕ, Bool, true, false, if◌then◌else◌, nat_lt, List, [], ◌∷◌, ◌++◌, length, map, Option}
use Rattle.std.specs.Prelude.{None, Some}
use Rattle.std.specs.Prelude.{Result, Ok, Err, slice_get, slice_set, slice_index_or}
use Rattle.sc_core.specs.declared.cause.Cause.{Cause}
use Rattle.sc_core.specs.declared.cause.Cause.TheVariants as cause
use Rattle.sc_core.specs.declared.value.Cell.{Cell}
use Rattle.sc_core.specs.declared.value.Cell.TheVariants.{Undef, Word, Null, Ptr}
use Rattle.sc_core.specs.declared.value.Value.TheVariants as value
use Rattle.sc_blocks.specs.declared.fault.BlockFault.{BlockFault}
use Rattle.sc_blocks.specs.declared.fault.BlockFault.TheVariants.{OutOfBounds, Dangling, NullUse, Indeterminate}

-- the memory of which these are the rows of blocks, one for each of the first compartments
abbrev pub memory_of : List Blocks → Memory
memory_of rows comp = slice_index_or rows comp []

-- the cause of undefined behaviour that a fault is
abbrev pub cause_of : BlockFault → Cause
cause_of OutOfBounds = cause.OutOfBounds
cause_of Dangling = cause.Dangling
cause_of NullUse = cause.NullUse
cause_of Indeterminate = cause.Indeterminate

abbrev pub or_cause : {A : Type 0} → Result A BlockFault → Result A Cause
or_cause (Ok x) = Ok x
or_cause (Err fault) = Err (cause_of fault)

-- a variable that has ended: it keeps its number, and gives its cells back
abbrev pub ended_block : Block
ended_block = record { live = false; cells = []; place = None }

-- a block that has ended gives its cells back
abbrev pub given_back : Block → Block
given_back block = if block.live then block else ended_block

-- the blocks once `count` of them, from number `first` on, have ended, with cells only for those that live
abbrev pub cleared : (first count : ℕ) → Blocks → Blocks
cleared first count blocks = map given_back (ended first count blocks)

-- a place, or null
abbrev pub is_place : Cell → Bool
is_place Null = true
is_place (Ptr p) = true
is_place _ = false

-- what a cell holds: a pointer into a block that has ended is nothing that can be loaded
abbrev pub read_cell : Blocks → Option Cell → Result Cell Cause
read_cell blocks None = Err cause.OutOfBounds
read_cell blocks (Some Undef) = Err cause.Indeterminate
read_cell blocks (Some (Word w)) = Ok (Word w)
read_cell blocks (Some Null) = Ok Null
read_cell blocks (Some (Ptr p)) = if is_live (slice_get blocks p.block) then Ok (Ptr p) else Err cause.Dangling

-- the cell at a place
abbrev pub load_cell : Blocks → Cell → Result Cell Cause
load_cell blocks (Ptr p) = bind (cells_at blocks p.block) (λ cells. read_cell blocks (slice_get cells p.index))
load_cell blocks _ = Err cause.NullUse

-- the cells once the one at an index is another
abbrev pub put_in : List Cell → ℕ → Cell → Result (List Cell) Cause
put_in cells index cell = if nat_lt index (length cells) then Ok (slice_set cells index cell) else Err cause.OutOfBounds

-- the blocks once a place holds this cell
abbrev pub store_cell : Blocks → Cell → Cell → Result Blocks Cause
store_cell blocks (Ptr p) cell =
    bind (living (slice_get blocks p.block)) (λ block. bind (put_in block.cells p.index cell)
    (λ cells. Ok (slice_set blocks p.block (record block { cells = cells }))))
store_cell blocks _ cell = Err cause.NullUse

-- the blocks once a pointer was freed, or null
abbrev pub free_cell : Blocks → Cell → Result Blocks Cause
free_cell blocks (Ptr p) = bind (freed blocks (value.Ptr p)) (λ after. Ok (map given_back after))
free_cell blocks Null = Ok blocks
free_cell blocks _ = Err cause.BadType

-- the blocks with one more, at a place of the zone, where there is one
abbrev pub with_words : (words : ℕ) → Option ℕ → Blocks → Blocks
with_words words None blocks = blocks
with_words words (Some place) blocks = blocks ++ allocated_at place words ∷ []

-- the least place from which `words` words of the zone are free
abbrev pub free_place : Blocks → (words : ℕ) → Option ℕ
free_place blocks words = least_free (spans_of blocks) words

-- how many cells a block has, if it lives
abbrev pub cell_count : Option Block → Option ℕ
cell_count None = None
cell_count (Some block) = if block.live then Some (length block.cells) else None
