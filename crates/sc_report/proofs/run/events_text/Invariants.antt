use Rattle.sc_report.proofs.Common.{event_line, flat_map, take, ◌≡◌}
use Rattle.sc_report.proofs.run.events_text.Given as goal

abbrev pub invariant-loop-event : goal.invariant-loop-event
invariant-loop-event l = l.text ≡ flat_map (event_line l.interfaces) (take l.event-index l.events)
