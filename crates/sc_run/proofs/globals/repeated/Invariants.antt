use Rattle.sc_run.proofs.Common.{repeated, ◌≡◌}
use Rattle.sc_run.proofs.globals.repeated.Given as goal

abbrev pub invariant-loop-time : goal.invariant-loop-time
invariant-loop-time l = l.all ≡ repeated l.zeros l.time l.cells
