-- Where a run stands: which function is active, and which wait for a call of another compartment to return.
use Rattle.std.specs.Prelude.{ℕ, List, [], ◌∷◌, Option, Some, None}
use Rattle.sc_event.specs.declared.event.Event.{Event}
use Rattle.sc_event.specs.declared.event.Event.TheVariants.{Call, Ret, Out, In, End}
use Rattle.sc_event.specs.declared.row.Entry.{Entry}
use Rattle.sc_event.specs.declared.row.Entry.TheVariants.{Main, Export}

-- a function that was entered from outside its compartment
pub record Activation : Type 0 where
  pub comp : ℕ
  pub entry : Entry

-- the active function, and the functions whose calls are open, the latest first
pub record Standing : Type 0 where
  pub active : Activation
  pub waiting : List Activation

-- a run begins in `main`
abbrev pub at_start : (main : ℕ) → Option Standing
at_start main = Some (record { active = record { comp = main; entry = Main }; waiting = [] })

-- the latest function that waits goes on
abbrev pub resumed : List Activation → Option Standing
resumed [] = None
resumed (latest ∷ earlier) = Some (record { active = latest; waiting = earlier })

-- after an event, `None` where the run has ended
abbrev pub stands_after : Standing → Event → Option Standing
stands_after at (Call from to index args) =
    Some (record { active = record { comp = to; entry = Export index }; waiting = at.active ∷ at.waiting })
stands_after at (Ret from to value) = resumed at.waiting
stands_after at (Out comp value) = Some at
stands_after at (In comp value) = Some at
stands_after at (End comp value) = None

-- after events in order
abbrev pub stands_after_all : Option Standing → List Event → Option Standing
stands_after_all at [] = at
stands_after_all None (event ∷ later) = None
stands_after_all (Some at) (event ∷ later) = stands_after_all (stands_after at event) later

-- the compartment that performs an event
abbrev pub performer : Event → ℕ
performer (Call from to index args) = from
performer (Ret from to value) = from
performer (Out comp value) = comp
performer (In comp value) = comp
performer (End comp value) = comp
