-- Helping: the blocks of a row that live, by rising numbers, and the row that they are. Variables and allocated blocks
-- stand apart.
use Rattle.sc_core.specs.Prelude.{Block, spans_of, variable}
use Rattle.std.specs.Prelude.{ℕ, zero, suc, ◌≡◌, ◌≤◌, if◌then◌else◌, ◌==◌, nat_lt, Bool, true, false, is_some, List}
use Rattle.std.specs.Prelude.{[], ◌∷◌, ◌++◌, map, replicate, Option, None, Some}
use Rattle.std.specs.Prelude.{◌⊎◌}
use Rattle.sc_core.specs.declared.value.Cell.{Cell}
use Rattle.sc_core.specs.declared.value.Cell.TheVariants.{Undef}
use Rattle.sc_blocks.specs.Rows.{ended_block}
use Rattle.sc_blocks.specs.declared.slots.Slot.{Slot}
use Rattle.sc_zone.specs.declared.span.Span.{Span}

-- the numbers rise, from one on, and are below another
abbrev pub IsRising : (from made : ℕ) → List Slot → Type 0
IsRising from made [] = from ≤ made
IsRising from made (slot ∷ slots) = (from ≤ slot.number) × IsRising (suc slot.number) made slots

-- a block that lives, by its slot
abbrev pub slot_block : Slot → Block
slot_block slot = record { live = true; cells = slot.cells; place = slot.place }

-- the slot of a number, if there is one
abbrev pub slot_among : List Slot → ℕ → Option Slot
slot_among [] number = None
slot_among (slot ∷ slots) number = if slot.number == number then Some slot else slot_among slots number

-- an allocated block that lives, or else one that has ended
abbrev pub allocated_or_ended : Option Slot → Block
allocated_or_ended None = ended_block
allocated_or_ended (Some slot) = slot_block slot

-- a variable that lives, or else another block
abbrev pub variable_or : Option Slot → Block → Block
variable_or None other = other
variable_or (Some slot) other = variable slot.cells

-- the block of a number, which stands among the variables or among what was allocated
abbrev pub block_at : (variables allocated : List Slot) → ℕ → Block
block_at variables allocated number =
    variable_or (slot_among variables number) (allocated_or_ended (slot_among allocated number))

-- no number is that of a variable and of an allocated block
abbrev pub AreApart : (variables allocated : List Slot) → Type 0
AreApart variables allocated =
    (number : ℕ) → (slot_among variables number ≡ None) ⊎ (slot_among allocated number ≡ None)

-- `count` blocks from number `from` on
abbrev pub laid_out : (ℕ → Block) → (count from : ℕ) → List Block
laid_out blocks zero from = []
laid_out blocks (suc count) from = blocks from ∷ laid_out blocks count (suc from)

-- these cells are those of the slot of a number
pub record HasCells (slots : List Slot) (number : ℕ) (cells : List Cell) : Type 0 where
  pub slot : Slot
  pub among : slot_among slots number ≡ Some slot
  pub cells_are : slot.cells ≡ cells

-- where allocated blocks lie in the zone
abbrev pub spans_in : List Slot → List Span
spans_in slots = spans_of (map slot_block slots)

-- the slots with one more, of this number and as many cells, at a place of the zone where there is one
abbrev pub with_slot : (number words : ℕ) → Option ℕ → List Slot → List Slot
with_slot number words None slots = slots
with_slot number words (Some place) slots =
    slots ++ record { number = number; cells = replicate words Undef; place = Some place } ∷ []

-- a slot of a block that was allocated at a place
abbrev pub has_place : Option Slot → Bool
has_place None = false
has_place (Some slot) = is_some slot.place

-- where the blocks of a zone lie, and nowhere before it is made
abbrev pub zone_spans : Option (List Span) → List Span
zone_spans None = []
zone_spans (Some spans) = spans

-- how many at the head have a lower number
abbrev pub count_below : ℕ → List Slot → ℕ
count_below number [] = 0
count_below number (slot ∷ slots) = if nat_lt slot.number number then suc (count_below number slots) else 0

-- all but those with numbers from one on and below another
abbrev pub without : (first end : ℕ) → List Slot → List Slot
without first end [] = []
without first end (slot ∷ slots) =
    if nat_lt slot.number first then slot ∷ without first end slots
    else if nat_lt slot.number end then without first end slots
    else slot ∷ without first end slots

-- a block that lives, with these cells
pub record LivesWith (block : Option Block) (cells : List Cell) : Type 0 where
  pub place : Option ℕ
  pub is : block ≡ Some (record { live = true; cells = cells; place = place })

-- a block that doesn't live, or none
abbrev pub IsOver : Option Block → Type 0
IsOver block = (block ≡ None) ⊎ (block ≡ Some ended_block)
