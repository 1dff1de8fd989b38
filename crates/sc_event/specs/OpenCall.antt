-- Helping: the call that is open at a place of a trace, found from the trace alone.
use Rattle.std.specs.Prelude.{◌≡◌, ℕ, zero, suc, List, ◌∷◌, take, slice_get, Option, Some, None}
use Rattle.std.specs.Option.{option_map_or}
use Rattle.sc_event.specs.declared.event.Event.{Event}
use Rattle.sc_event.specs.declared.event.Event.TheVariants.{Call, Ret, Out, In, End}
use Rattle.sc_event.specs.declared.row.Entry.TheVariants.{Export}
use Rattle.sc_event.specs.Standing.{Standing, at_start, stands_after_all}

-- where `returned` calls have returned after an event: how many have after the one before it, `None` where the event is
-- a call that hasn't returned itself
abbrev pub returned_before : Event → (returned : ℕ) → Option ℕ
returned_before (Call from to index args) zero = None
returned_before (Call from to index args) (suc returned) = Some returned
returned_before (Ret from to value) returned = Some (suc returned)
returned_before (Out comp value) returned = Some returned
returned_before (In comp value) returned = Some returned
returned_before (End comp value) returned = Some returned

abbrev pub here_or : (place : ℕ) → (ℕ → Option ℕ) → Option ℕ → Option ℕ
here_or place earlier None = Some place
here_or place earlier (Some returned) = earlier returned

-- the latest of the first `count` events that is a call and hasn't returned, where `returned` have returned after them
abbrev pub open_call : List Event → (count returned : ℕ) → Option ℕ
open_call trace zero returned = None
open_call trace (suc count) returned =
    here_or count (open_call trace count) (option_map_or (λ event. returned_before event returned)
    (slice_get trace count) (Some returned))

-- the call that was open when the open call was made
abbrev pub outer : List Event → (open_at : Option ℕ) → Option ℕ
outer trace None = None
outer trace (Some call) = open_call trace call 0

-- the open call after the event at a place
abbrev pub open_after : List Event → (open_at : Option ℕ) → (place : ℕ) → Event → Option ℕ
open_after trace open_at place (Call from to index args) = Some place
open_after trace open_at place (Ret from to value) = outer trace open_at
open_after trace open_at place (Out comp value) = open_at
open_after trace open_at place (In comp value) = open_at
open_after trace open_at place (End comp value) = open_at

-- the run that stood at `earlier` stands at `at` after this event, which is a call
abbrev pub HasEntered : Option Event → (earlier at : Standing) → Type 0
HasEntered (Some (Call from to index args)) earlier at =
    at ≡ record { active = record { comp = to; entry = Export index }; waiting = earlier.active ∷ earlier.waiting }
HasEntered _ earlier at = ⊥

-- the run stands where it has come by the open call at this place, or where it began
abbrev pub StandsBy : (main : ℕ) → List Event → Option ℕ → Standing → Type 0
StandsBy main trace None at = Some at ≡ at_start main
StandsBy main trace (Some call) at =
    (earlier : Standing) × (stands_after_all (at_start main) (take call trace) ≡ Some earlier) ×
    HasEntered (slice_get trace call) earlier at
