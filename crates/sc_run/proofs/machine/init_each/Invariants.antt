use Rattle.sc_run.proofs.Common.{here_of, kept_by}
use Rattle.sc_run.proofs.Making.{Started}
use Rattle.sc_run.proofs.machine.init_each.Given as goal

abbrev pub invariant-loop-at : goal.invariant-loop-at
invariant-loop-at l =
    Started l.frame.scope.structs.now (here_of l.frame.scope) l.frame.scope.params l.frame.function.now.locals l.at
    (kept_by l.fn.machine) (kept_by l.machine)
