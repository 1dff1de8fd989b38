-- What one compartment does in a trace.
use Rattle.std.specs.Prelude.{ℕ, suc, ◌==◌, List, [], ◌∷◌, length, filter, Option, Some, None, if◌then◌else◌}
use Rattle.sc_event.specs.declared.event.Event.{Event}
use Rattle.sc_event.specs.declared.event.Event.TheVariants as events
use Rattle.sc_event.specs.declared.row.Action.{Action}
use Rattle.sc_event.specs.declared.row.Action.TheVariants.{Call, Ret, Out, In, End}
use Rattle.sc_event.specs.declared.row.Row.{Row}
use Rattle.sc_event.specs.Standing.{Standing, at_start, stands_after, performer}

-- an event as its performer sees it
abbrev pub action_of : Event → Action
action_of (events.Call from to index args) = Call to index args
action_of (events.Ret from to value) = Ret value
action_of (events.Out comp value) = Out value
action_of (events.In comp value) = In value
action_of (events.End comp value) = End value

-- the events of a compartment from where the run stands, numbered from `number` on, each with the function that is
-- active there
abbrev pub rows_from : (comp number : ℕ) → Option Standing → List Event → List Row
rows_from comp number at [] = []
rows_from comp number None (event ∷ later) = []
rows_from comp number (Some at) (event ∷ later) =
    if performer event == comp
    then record { entry = at.active.entry; number = number; action = action_of event } ∷
    rows_from comp (suc number) (stands_after at event) later
    else rows_from comp number (stands_after at event) later

-- all its events in the trace of a run that begins in `main`, numbered from 0
abbrev pub part : (main comp : ℕ) → List Event → List Row
part main comp trace = rows_from comp 0 (at_start main) trace

-- how many of the events are the compartment's
abbrev pub count_of : (comp : ℕ) → List Event → ℕ
count_of comp trace = length (filter (λ event. performer event == comp) trace)
