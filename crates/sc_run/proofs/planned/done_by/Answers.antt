use Rattle.sc_run.proofs.Common.{kept_by}
use Rattle.sc_run.proofs.Ahead.{all_done, one_more, stays_so, then_passes, unchanged}
use Rattle.sc_run.proofs.planned.done_by.Goals as goal

pub loop-at-init : goal.loop-at-init
loop-at-init c = stays_so

pub returns-then-not-is_done_by-clause-passes : goal.returns-then-not-is_done_by-clause-passes
returns-then-not-is_done_by-clause-passes c = then_passes c.loop-at.invariant (unchanged c.if-not-is_done_by.ensures)

pub loop-at-preserved : goal.loop-at-preserved
loop-at-preserved c = one_more c.args.program.now c.args.frame.now c.args.stmts.now c.loop-at.at
    (kept_by c.args.machine.now) c.loop-at-test.true c.index-stmts-at.is c.loop-at.invariant c.if-not-is_done_by.ensures

pub returns-clause-passes : goal.returns-clause-passes
returns-clause-passes c =
    all_done c.args.program.now c.args.frame.now c.args.stmts.now c.loop-at.at (kept_by c.args.machine.now)
    (kept_by c.loop-at.machine) c.loop-at-test.false c.loop-at.invariant
