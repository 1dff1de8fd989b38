use Rattle.sc_run.proofs.Common.{arith, here_of, kept_by}
use Rattle.sc_run.proofs.Making.{started_more, started_blamed, started_all}
use Rattle.sc_run.proofs.machine.init_each.Goals as goal

pub loop-at-preserved : goal.loop-at-preserved
loop-at-preserved c =
    let f = c.args.frame.now in
    started_more f.scope.structs.now (here_of f.scope) f.scope.params f.function.now.locals c.loop-at.at
    (kept_by c.args.machine.now) (rw c.as_slice-locals.ensures at c.loop-at-test.true)
    (rw c.as_slice-locals.ensures at c.index-locals-at.is) c.loop-at.invariant c.in-Ok.ensures

pub returns : goal.returns
returns c =
    let f = c.args.frame.now in
    started_all f.scope.structs.now (here_of f.scope) f.scope.params f.function.now.locals c.loop-at.at
    (rw c.as_slice-locals.ensures at c.loop-at-test.false) c.loop-at.invariant

pub returns-in-Err : goal.returns-in-Err
returns-in-Err c =
    let f = c.args.frame.now in
    started_blamed f.scope.structs.now (here_of f.scope) f.scope.params f.function.now.locals c.loop-at.at
    (rw c.as_slice-locals.ensures at c.loop-at-test.true) (rw c.as_slice-locals.ensures at c.index-locals-at.is)
    c.loop-at.invariant c.in-Err.ensures

pub loop-at-init : goal.loop-at-init
loop-at-init c = record { fewer = omega arith; lengths = λ comp. omega arith; on = λ after r h. h }
