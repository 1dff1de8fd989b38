-- Helping: the row of one event.
use Rattle.sc_event.specs.Prelude.{action_of, performer}
use Rattle.std.specs.Prelude.{ℕ, ◌==◌, List, [], ◌∷◌, if◌then◌else◌}
use Rattle.sc_event.specs.declared.event.Event.{Event}
use Rattle.sc_event.specs.declared.row.Entry.{Entry}
use Rattle.sc_event.specs.declared.row.Row.{Row}

-- the row that a compartment gets by an event, while this function is active: none where another performs it
abbrev pub row_of : (comp number : ℕ) → Entry → Event → List Row
row_of comp number entry event =
    if performer event == comp then record { entry = entry; number = number; action = action_of event } ∷ [] else []
