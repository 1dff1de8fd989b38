use Rattle.sc_policy.proofs.Cuts.{next_line, no_line}
use Rattle.sc_policy.proofs.read.line_end.Goals as goal

pub returns-then-bytes-end-eq10-clause-line : goal.returns-then-bytes-end-eq10-clause-line
returns-then-bytes-end-eq10-clause-line c =
    next_line c.args.bytes.now c.args.at c.loop-end.end c.loop-end.auto.end c.loop-end-test.true
    c.if-bytes-end-eq10.true c.loop-end.invariant

pub returns-clause-none : goal.returns-clause-none
returns-clause-none c =
    no_line c.args.bytes.now c.args.at c.loop-end.end c.loop-end-test.false c.loop-end.invariant
