-- Memory: the variables of each compartment and what it allocated, loads and stores (C11 6.2.4, 6.3.2.1, 6.5.6), and
-- allocated blocks (C11 7.22.3).
use Rattle.std.specs.Prelude.{ℕ, zero, suc, Bool, true, false, ◌&&◌, if◌then◌else◌, ◌==◌, nat_lt, List, [], ◌∷◌, length}
use Rattle.std.specs.Prelude.{fold, replicate, Option, None, Some, is_some, Result, Ok, Err, slice_get, slice_set}
use Rattle.sc_zone.specs.Prelude.{with_span}
use Rattle.sc_zone.specs.declared.span.Span.{Span}
use Rattle.sc_core.specs.declared.cause.Cause.{Cause}
use Rattle.sc_core.specs.declared.cause.Cause.TheVariants.{BadFree, Dangling, OutOfBounds, Indeterminate, BadType}
use Rattle.sc_core.specs.declared.cause.Cause.TheVariants.{NullUse}
use Rattle.sc_core.specs.declared.value.Cell.{Cell}
use Rattle.sc_core.specs.declared.value.Cell.TheVariants as cell
use Rattle.sc_core.specs.declared.value.Pointer.{Pointer}
use Rattle.sc_core.specs.declared.value.Value.{Value}
use Rattle.sc_core.specs.declared.value.Value.TheVariants.{Word, Null, Ptr}

-- a variable, or what was allocated: whether it lives, its cells, and the place in the zone of its compartment at which
-- it was allocated; a variable has none
pub record Block : Type 0 where
  pub live : Bool
  pub cells : List Cell
  pub place : Option ℕ

-- a variable that lives, with these cells
abbrev pub variable : List Cell → Block
variable cells = record { live = true; cells = cells; place = None }

-- the blocks of one compartment, in the order in which they were made
abbrev pub Blocks : Type 0
Blocks = List Block

-- the blocks of each compartment: no load or store reaches those of another
abbrev pub Memory : Type 0
Memory = ℕ → Blocks

-- the memory in which one compartment has these blocks
abbrev pub with_blocks : ℕ → Blocks → Memory → Memory
with_blocks comp blocks memory c = if c == comp then blocks else memory c

-- goes on with a result, or keeps the first cause
abbrev pub bind : {A B : Type 0} → Result A Cause → (A → Result B Cause) → Result B Cause
bind (Err cause) go = Err cause
bind (Ok x) go = go x

abbrev pub is_live : Option Block → Bool
is_live None = false
is_live (Some block) = block.live

-- the cells of a block that lives
abbrev pub live_cells : Option Block → Result (List Cell) Cause
live_cells None = Err Dangling
live_cells (Some block) = if block.live then Ok block.cells else Err Dangling

abbrev pub cells_at : Blocks → ℕ → Result (List Cell) Cause
cells_at blocks block = live_cells (slice_get blocks block)

abbrev pub cell_of : Value → Cell
cell_of (Word w) = cell.Word w
cell_of Null = cell.Null
cell_of (Ptr p) = cell.Ptr p

-- what a cell gives where a pointer, or else an integer, is wanted; a pointer to a block that has ended gives
-- nothing (C11 6.2.4p2)
abbrev pub loaded : Blocks → Bool → Option Cell → Result Value Cause
loaded blocks pointer None = Err OutOfBounds
loaded blocks pointer (Some cell.Undef) = Err Indeterminate
loaded blocks pointer (Some (cell.Word w)) = if pointer then Err BadType else Ok (Word w)
loaded blocks pointer (Some cell.Null) = if pointer then Ok Null else Err BadType
loaded blocks pointer (Some (cell.Ptr p)) =
    if is_live (slice_get blocks p.block) then (if pointer then Ok (Ptr p) else Err BadType) else Err Dangling

-- what is at a place
abbrev pub load : Blocks → Bool → Value → Result Value Cause
load blocks pointer (Word w) = Err BadType
load blocks pointer Null = Err NullUse
load blocks pointer (Ptr p) = bind (cells_at blocks p.block) (λ cells. loaded blocks pointer (slice_get cells p.index))

-- a block that lives
abbrev pub living : Option Block → Result Block Cause
living None = Err Dangling
living (Some block) = if block.live then Ok block else Err Dangling

-- the blocks once a cell of one of them, which is `block`, holds a value
abbrev pub with_cell : Blocks → Pointer → Value → Block → Result Blocks Cause
with_cell blocks p v block =
    if nat_lt p.index (length block.cells) then Ok (slice_set blocks p.block
    (record block { cells = slice_set block.cells p.index (cell_of v) })) else Err OutOfBounds

-- the blocks once a value is stored at a place
abbrev pub store : Blocks → Value → Value → Result Blocks Cause
store blocks (Word w) v = Err BadType
store blocks Null v = Err NullUse
store blocks (Ptr p) v = bind (living (slice_get blocks p.block)) (with_cell blocks p v)

-- the blocks once `count` of them, from number `first` on, have ended
abbrev pub ended : (first count : ℕ) → Blocks → Blocks
ended zero zero blocks = blocks
ended zero (suc count) [] = []
ended zero (suc count) (block ∷ blocks) = record block { live = false } ∷ ended zero count blocks
ended (suc first) count [] = []
ended (suc first) count (block ∷ blocks) = block ∷ ended first count blocks

-- The zone of a compartment: where its allocated blocks lie, and how a block is freed.

-- blocks of a zone with one more, where a block was allocated
abbrev pub span_at : Option ℕ → (words : ℕ) → List Span → List Span
span_at None words spans = spans
span_at (Some place) words spans = with_span (record { place = place; words = words }) spans

abbrev pub with_block : List Span → Block → List Span
with_block spans block = if block.live then span_at block.place (length block.cells) spans else spans

-- where the allocated blocks that live lie, in the order of their places
abbrev pub spans_of : Blocks → List Span
spans_of blocks = fold with_block [] blocks

-- a block that was just allocated: nothing is in it yet
abbrev pub allocated_at : (place words : ℕ) → Block
allocated_at place words = record { live = true; cells = replicate words cell.Undef; place = Some place }

-- a block once it has ended
abbrev pub over : Block → Block
over block = record block { live = false }

-- the blocks once one of them was freed: it was allocated, and lives
abbrev pub without_block : Blocks → ℕ → Option Block → Result Blocks Cause
without_block blocks b None = Err BadFree
without_block blocks b (Some block) =
    if block.live && is_some block.place then Ok (slice_set blocks b (over block)) else Err BadFree

-- the blocks once a value was freed: null, or a pointer to the start of an allocated block
abbrev pub freed : Blocks → Value → Result Blocks Cause
freed blocks (Word w) = Err BadType
freed blocks Null = Ok blocks
freed blocks (Ptr p) =
    if p.index == 0 then without_block blocks p.block (slice_get blocks p.block) else Err BadFree
