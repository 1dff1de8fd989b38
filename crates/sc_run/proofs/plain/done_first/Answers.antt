use Rattle.sc_run.proofs.Common.{[], arith}
use Rattle.sc_run.proofs.Ahead.{none_after, none_in, within_one, stays_so, then_passes, unchanged}
use Rattle.sc_run.proofs.Weighing.{part_less}
use Rattle.sc_run.proofs.plain.done_first.Goals as goal

pub loop-at-init : goal.loop-at-init
loop-at-init c = stays_so

pub returns-in-None-clause-passes : goal.returns-in-None-clause-passes
returns-in-None-clause-passes c = then_passes c.loop-at.invariant (unchanged c.in-None.ensures.passes)

pub returns-clause-passes : goal.returns-clause-passes
returns-clause-passes c = none_after c.args.program.now c.args.frame.now c.args.stmts.now c.loop-at.at
    c.loop-at-test.false c.loop-at.invariant

pub returns-then-not-is_empty-clause-passes : goal.returns-then-not-is_empty-clause-passes
returns-then-not-is_empty-clause-passes c =
    within_one c.args.program.now c.args.frame.now c.args.stmts.now c.in-Some.part.now c.loop-at.at c.loop-at-test.true
    c.index-stmts-at.is c.loop-at.invariant c.in-Some.ensures.passes

pub loop-at-preserved : goal.loop-at-preserved
loop-at-preserved c = within_one c.args.program.now c.args.frame.now c.args.stmts.now [] c.loop-at.at
    c.loop-at-test.true c.index-stmts-at.is c.loop-at.invariant
    (rw (none_in c.in-Some.part.now c.is_empty.ensures c.if-not-is_empty.false) at c.in-Some.ensures.passes)

pub returns-in-None-clause-less : goal.returns-in-None-clause-less
returns-in-None-clause-less c = omega arith

pub returns-then-not-is_empty-clause-less : goal.returns-then-not-is_empty-clause-less
returns-then-not-is_empty-clause-less c =
    part_less c.args.stmts.now c.loop-at.at c.in-Some.part.now c.loop-at-test.true c.index-stmts-at.is
    c.in-Some.ensures.less
