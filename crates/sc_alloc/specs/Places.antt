-- The places that linear scan gives to temporaries (Poletto and Sarkar, Linear Scan Register Allocation).
use Rattle.sc_alloc.specs.Common.{Interval, Place, Placement, Register, Slot, register_count}
use Rattle.std.specs.Prelude.{ℕ, suc, Bool, true, ◌&&◌, nat_lt, nat_le, if◌then◌else◌, List, [], ◌∷◌, ◌++◌, map, take}
use Rattle.std.specs.Prelude.{drop, replicate, Option, None, Some}
use Rattle.std.specs.List.{fold, list_all, position, position_or_len, slice_set}

-- a list in the order of its keys, with one more element: before the first whose key is no lower
abbrev pub insert_by : {A : Type 0} → (A → ℕ) → A → List A → List A
insert_by key x [] = x ∷ []
insert_by key x (y ∷ ys) = if nat_lt (key y) (key x) then y ∷ insert_by key x ys else x ∷ y ∷ ys

-- the elements in the order of their keys; those of one key stay in their order
abbrev pub sorted_by : {A : Type 0} → (A → ℕ) → List A → List A
sorted_by key [] = []
sorted_by key (x ∷ xs) = insert_by key x (sorted_by key xs)

-- how far the scan has come: the intervals with the places that they got, and of each register and each slot so far the
-- end of the interval that got it last
pub record Scanned : Type 0 where
  pub placements : List Placement
  pub registers : List (Option ℕ)
  pub slots : List ℕ

-- at first no register is held, and there is no slot
abbrev pub at_first : Scanned
at_first = record { placements = []; registers = replicate register_count None; slots = [] }

-- one more interval has a place
abbrev pub with_place : List Placement → Interval → Place → List Placement
with_place placements x place = placements ++ record { interval = x; place = place } ∷ []

-- the interval that had a register last ends before this point
abbrev pub is_over : ℕ → Option ℕ → Bool
is_over at None = true
is_over at (Some last) = nat_lt last at

-- the first register that is free where the interval begins; none for an interval over a call
abbrev pub register_for : Interval → List (Option ℕ) → Option ℕ
register_for x registers = if x.spans_call then None else position (is_over x.first) registers

-- a slot is free at this point, and none is free sooner
abbrev pub is_soonest : ℕ → List ℕ → ℕ → Bool
is_soonest at slots last = nat_lt last at && list_all (nat_le last) slots

-- the first slot that is free soonest, if it is free at this point; else a new one, whose number is the number of slots
abbrev pub slot_for : ℕ → List ℕ → ℕ
slot_for at slots = position_or_len (is_soonest at slots) slots

-- the ends of slots with that of an interval that gets this slot, which may be the new one
abbrev pub with_slot : List ℕ → ℕ → ℕ → List ℕ
with_slot slots k last = take k slots ++ last ∷ drop (suc k) slots

-- an interval gets this register
abbrev pub in_register : Scanned → Interval → ℕ → Scanned
in_register s x r =
    record s { placements = with_place s.placements x (Register r); registers = slice_set s.registers r (Some x.last) }

-- an interval gets this slot
abbrev pub in_slot : Scanned → Interval → ℕ → Scanned
in_slot s x k = record s { placements = with_place s.placements x (Slot k); slots = with_slot s.slots k x.last }

-- an interval gets the register, if there is one for it, and else a slot
abbrev pub in_place : Scanned → Interval → Option ℕ → Scanned
in_place s x None = in_slot s x (slot_for x.first s.slots)
in_place s x (Some r) = in_register s x r

-- the next interval gets its place
abbrev pub scan_next : Scanned → Interval → Scanned
scan_next s x = in_place s x (register_for x s.registers)

-- the places of the intervals, by the numbers of their temporaries: they get them in the order in which they begin, and
-- those that begin together as they stand in the list
abbrev pub assigned : List Interval → List Place
assigned intervals =
    map (λ g. g.place)
    (sorted_by (λ g. g.interval.temp) (fold scan_next at_first (sorted_by (λ x. x.first) intervals)).placements)
