use Rattle.sc_run.proofs.Common.{arith, here_of}
use Rattle.sc_run.proofs.Making.{none_among, started_all}
use Rattle.sc_run.proofs.machine.init_all.Goals as goal

pub returns-then-is_empty : goal.returns-then-is_empty
returns-then-is_empty c =
    let f = c.args.frame.now in
    started_all f.scope.structs.now (here_of f.scope) f.scope.params f.function.now.locals 0
    (none_among f.function.now.locals (rw c.as_slice.ensures at c.is_empty.ensures) c.if-is_empty.true)
    (record { fewer = omega arith; lengths = λ comp. omega arith; on = λ after r h. h })
