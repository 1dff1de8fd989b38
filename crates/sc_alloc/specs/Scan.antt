-- Helping: what a linear scan keeps, of the intervals that got a place so far, in the order in which they begin.
use Rattle.sc_alloc.specs.Common.{Interval, Place, Placement, Register, Slot, is_place, register_count}
use Rattle.std.specs.Prelude.{◌≡◌, ◌≢◌, ◌≤◌, ◌<◌, ◌==◌, ℕ, suc, max, Bool, true, false, List, length, All, Option, None}
use Rattle.std.specs.Prelude.{Some, MatchOption, slice_get, IsTrue}
use Rattle.std.specs.BinaryHeap.{IsHeap, heap_items}
use Rattle.std.specs.List.{count_by}
use Rattle.std.specs.Ordering.{nat_cmp, ordering_then}
use Rattle.std.specs.declared.cmp.Ordering.{Ordering}
use Rattle.std.specs.declared.cmp.Reverse.{Reverse}
use Rattle.sc_alloc.specs.declared.registers.Registers.{Registers}
use Rattle.sc_alloc.specs.declared.scan.Scan.{Scan}
use Rattle.sc_alloc.specs.declared.slots.SlotEnd.{SlotEnd}
use Rattle.sc_alloc.specs.declared.slots.Slots.{Slots}
use Rattle.sc_alloc.specs.Places.{Scanned, scan_next, slot_for, with_place, with_slot}

-- each that got this place ends before this point
abbrev pub AllOver : List Placement → Place → ℕ → Type 0
AllOver placements place at =
    (i : ℕ) (g : Placement) → slice_get placements i ≡ Some g → g.place ≡ place → g.interval.last < at

-- an interval with this register lasts to some point
pub record IsInUse (placements : List Placement) (r at : ℕ) : Type 0 where
  pub by : ℕ
  pub holder : Placement
  pub its : slice_get placements by ≡ Some holder
  pub place : holder.place ≡ Register r
  pub lasts : at ≤ holder.interval.last

-- of each register, the end of an interval that got it, and none that got it ends later
pub record AreRegisters (placements : List Placement) (lasts : List (Option ℕ)) : Type 0 where
  pub count : length lasts ≡ register_count
  pub known : (i r : ℕ) (g : Placement) → slice_get placements i ≡ Some g → g.place ≡ Register r → r < register_count
  pub in_use : (r last : ℕ) → slice_get lasts r ≡ Some (Some last) → IsInUse placements r last
  pub unused : (r : ℕ) → slice_get lasts r ≡ Some None → (at : ℕ) → AllOver placements (Register r) at
  pub over : (r last : ℕ) → slice_get lasts r ≡ Some (Some last) → AllOver placements (Register r) (suc last)

-- an interval over no call gets a free register, unless none is free where it begins
abbrev pub GivesRegister : List Placement → Interval → List (Option ℕ) → Option ℕ → Type 0
GivesRegister placements x lasts register =
    MatchOption register
    (AreRegisters placements lasts ×
    (x.spans_call ≡ false → (r : ℕ) → r < register_count → IsInUse placements r x.first))
    (λ r. AreRegisters (with_place placements x (Register r)) lasts × AllOver placements (Register r) x.first ×
    (x.spans_call ≡ false))

abbrev pub is_of : ℕ → Reverse SlotEnd → Bool
is_of slot end = end.0.slot == slot

-- where slots end, each at most once, and none that got a slot ends later
pub record KnowsSlots (placements : List Placement) (ends : List (Reverse SlotEnd)) (count : ℕ) : Type 0 where
  pub once : (slot : ℕ) → count_by (is_of slot) ends ≤ 1
  pub below : All (λ end. end.0.slot < count) ends
  pub known : (i slot : ℕ) (g : Placement) → slice_get placements i ≡ Some g → g.place ≡ Slot slot → slot < count
  pub over : All (λ end. AllOver placements (Slot end.0.slot) (suc end.0.last)) ends

-- there are no more slots than intervals
pub record AreSlots (placements : List Placement) (ends : List (Reverse SlotEnd)) (count : ℕ) : Type 0 where
  pub few : count ≤ length placements
  pub knows : KnowsSlots placements ends count

-- a slot that is free at this point was taken out
pub record IsOut (placements : List Placement) (ends : List (Reverse SlotEnd)) (count at slot : ℕ) : Type 0 where
  pub few : count ≤ suc (length placements)
  pub knows : KnowsSlots placements ends count
  pub own : slot < count
  pub out : All (λ end. end.0.slot ≢ slot) ends
  pub free : AllOver placements (Slot slot) at

-- the order of the heap: the slot that is free soonest is the greatest, and the first of those
abbrev pub soonest_first : Reverse SlotEnd → Reverse SlotEnd → Ordering
soonest_first x y = ordering_then (nat_cmp y.0.last x.0.last) (nat_cmp y.0.slot x.0.slot)

-- the heap has the end of each of these slots, once
pub record HasEnds (slots : List ℕ) (ends : List (Reverse SlotEnd)) (count : ℕ) : Type 0 where
  pub all : count ≡ length slots
  pub ordered : IsHeap soonest_first ends
  pub each : All (λ end. slice_get slots end.0.slot ≡ Some end.0.last) ends
  pub once : (slot : ℕ) → slot < length slots → count_by (is_of slot) ends ≡ 1

-- the heap has the end of each but one, which may be new
pub record LacksOne (slots : List ℕ) (ends : List (Reverse SlotEnd)) (count own : ℕ) : Type 0 where
  pub within : own ≤ length slots
  pub all : count ≡ max (length slots) (suc own)
  pub ordered : IsHeap soonest_first ends
  pub out : All (λ end. end.0.slot ≢ own) ends
  pub each : All (λ end. slice_get slots end.0.slot ≡ Some end.0.last) ends
  pub once : (slot : ℕ) → slot < length slots → slot ≢ own → count_by (is_of slot) ends ≡ 1

-- the slot for an interval that begins here was taken out
abbrev pub IsTaken : List ℕ → List (Reverse SlotEnd) → ℕ → ℕ → ℕ → Type 0
IsTaken slots ends count at slot = (slot ≡ slot_for at slots) × LacksOne slots ends count slot

-- no slot is free at this point, so that the slot for what begins there is a new one
abbrev pub NoneFree : List ℕ → List (Reverse SlotEnd) → ℕ → ℕ → Type 0
NoneFree slots ends count at = (slot_for at slots ≡ length slots) × HasEnds slots ends count

-- an interval has got the slot for it
abbrev pub HasSlot : List ℕ → Interval → List (Reverse SlotEnd) → ℕ → ℕ → Type 0
HasSlot slots x ends count slot = (slot ≡ slot_for x.first slots) × HasEnds (with_slot slots slot x.last) ends count

-- an interval gets a free slot
abbrev pub GivesSlot : List Placement → Interval → List (Reverse SlotEnd) → ℕ → ℕ → Type 0
GivesSlot placements x ends count slot =
    AreSlots (with_place placements x (Slot slot)) ends count × AllOver placements (Slot slot) x.first

-- each begins no later than this point
abbrev pub AllBegun : List Placement → ℕ → Type 0
AllBegun placements at = (i : ℕ) (g : Placement) → slice_get placements i ≡ Some g → g.interval.first ≤ at

-- an interval gets a place that is free where it begins: a slot only if it spans a call or no register is free
pub record IsFair (placements : List Placement) (x : Interval) (place : Place) : Type 0 where
  pub free : AllOver placements place x.first
  pub over_calls : x.spans_call ≡ true → (k : ℕ) × (place ≡ Slot k)
  pub spared : x.spans_call ≡ false → (k : ℕ) → place ≡ Slot k → (r : ℕ) → r < register_count →
      IsInUse placements r x.first

-- where an interval begins, one that began no later holds a register
abbrev pub IsInUseWithin : List Placement → ℕ → ℕ → Type 0
IsInUseWithin placements r at = (in_use : IsInUse placements r at) × (in_use.holder.interval.first ≤ at)

-- each got its place fairly, after those before it
pub record AreFair (placements : List Placement) : Type 0 where
  pub apart : (i j : ℕ) (g h : Placement) → i < j → slice_get placements i ≡ Some g → slice_get placements j ≡ Some h →
      g.place ≡ h.place → g.interval.last < h.interval.first
  pub over_calls : (i : ℕ) (g : Placement) → slice_get placements i ≡ Some g → g.interval.spans_call ≡ true →
      (k : ℕ) × (g.place ≡ Slot k)
  pub spared : (i : ℕ) (g : Placement) → slice_get placements i ≡ Some g → g.interval.spans_call ≡ false →
      (k : ℕ) → g.place ≡ Slot k → (r : ℕ) → r < register_count → IsInUseWithin placements r g.interval.first

-- an interval has its place, and registers and slots know
pub record IsChosen (placements : List Placement) (x : Interval) (r : Registers) (s : Slots) (place : Place) : Type 0
  where
    pub fair : IsFair placements x place
    pub registers : AreRegisters (with_place placements x place) r.lasts
    pub slots : AreSlots (with_place placements x place) (heap_items s.ends) s.count

-- registers and slots are as far as the scan has come
pub record HasCome (s : Scanned) (registers : Registers) (slots : Slots) : Type 0 where
  pub lasts : registers.lasts ≡ s.registers
  pub ends : HasEnds s.slots (heap_items slots.ends) slots.count

-- the next interval gets this place
pub record IsNext (s : Scanned) (x : Interval) (registers : Registers) (slots : Slots) (place : Place) : Type 0 where
  pub placements : (scan_next s x).placements ≡ with_place s.placements x place
  pub come : HasCome (scan_next s x) registers slots

-- a scan is as far as this
pub record IsAt (s : Scanned) (scan : Scan) : Type 0 where
  pub placements : scan.placements ≡ s.placements
  pub come : HasCome s scan.registers scan.slots

-- what a scan keeps
pub record IsScan (scan : Scan) : Type 0 where
  pub fair : AreFair scan.placements
  pub registers : AreRegisters scan.placements scan.registers.lasts
  pub slots : AreSlots scan.placements (heap_items scan.slots.ends) scan.slots.count

-- each place is one that there is
abbrev pub AreKnown : List Placement → Type 0
AreKnown placements =
    (i : ℕ) (g : Placement) → slice_get placements i ≡ Some g → IsTrue (is_place (length placements) g.place)

-- the temporaries are numbers below, each once
pub record AreNumbered (placements : List Placement) : Type 0 where
  pub below : (i : ℕ) (g : Placement) → slice_get placements i ≡ Some g → g.interval.temp < length placements
  pub once : (i j : ℕ) (g h : Placement) → slice_get placements i ≡ Some g → slice_get placements j ≡ Some h →
      g.interval.temp ≡ h.interval.temp → i ≡ j

-- the place of each stands at the number of its temporary
pub record ArePlaced (placements : List Placement) (places : List Place) : Type 0 where
  pub each : length places ≡ length placements
  pub at : (i : ℕ) (g : Placement) → slice_get placements i ≡ Some g → slice_get places g.interval.temp ≡ Some g.place
