use Rattle.sc_event.proofs.Common.{open_call, ◌-◌, ◌≡◌, ◌≤◌}
use Rattle.sc_event.proofs.legality.open_call.Given as goal

abbrev pub invariant-loop-following : goal.invariant-loop-following
invariant-loop-following l =
    (open_call l.events l.count 0 ≡ open_call l.events (l.count - l.following) l.returned) × (l.returned ≤ l.following)
