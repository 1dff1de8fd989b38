use Rattle.sc_event.proofs.Common.{IfSome, ◌<◌}
use Rattle.sc_event.proofs.Allowed.{IsOpenAt}
use Rattle.sc_event.proofs.legality.legal.Given as goal

abbrev pub invariant-loop-at : goal.invariant-loop-at
invariant-loop-at l = IsOpenAt l.interfaces l.events l.pending l.at × IfSome l.pending (λ call. call < l.at)
