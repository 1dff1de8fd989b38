use Rattle.sc_monitor.proofs.Common.{drop, verdict_from, ◌≡◌}
use Rattle.sc_monitor.proofs.judging.judge.Given as goal

abbrev pub invariant-loop-after : goal.invariant-loop-after
invariant-loop-after l =
    verdict_from l.policy.rules l.interfaces l.explanation.given l.explanation.links 0 0 l.explanation.trace ≡
    verdict_from l.policy.rules l.interfaces l.explanation.given l.explanation.links l.after l.state (drop l.after l.explanation.trace)
