use Rattle.sc_event.specs.Prelude.{part, rows_from}
use Rattle.std.proofs.Common.{◌≡◌, ◌≤◌, ◌++◌, length, drop, Some}
use Rattle.sc_script.proofs.rows.part.Given as goal

abbrev pub invariant-loop-event : goal.invariant-loop-event
invariant-loop-event l =
    (l.script ++ rows_from l.comp (length l.script) (Some l.walk) (drop l.event-index l.trace) ≡
    part l.fn.main l.comp l.trace)
    × (length l.script ≤ l.event-index)
