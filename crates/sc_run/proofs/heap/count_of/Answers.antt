use Rattle.sc_run.proofs.Common.{Ok, Word, here_of, kept_by, refl}
use Rattle.sc_run.proofs.Coming.{computed_comes}
use Rattle.sc_run.proofs.heap.count_of.Goals as goal

pub returns-in-None : goal.returns-in-None
returns-in-None c = rw c.in-None.is (computed_comes (here_of c.args.frame.now.scope) c.args.line (λ bs. Ok (Word 1))
    (λ bs. refl) (kept_by c.args.machine.now) refl)

pub returns-in-Some : goal.returns-in-Some
returns-in-Some c = rw (c.in-Some.is, ← c.get.ensures) c.evaluated.ensures
