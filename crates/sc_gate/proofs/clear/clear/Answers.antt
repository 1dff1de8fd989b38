use Rattle.std.proofs.Common.{arith}
use Rattle.sc_gate.proofs.Kept.{next_cleared}
use Rattle.sc_gate.proofs.clear.clear.Goals as goal

pub loop-number-preserved : goal.loop-number-preserved
loop-number-preserved c = λ keeps all long none is.
    next_cleared keeps c.loop-number.number all c.loop-number.regs
    (omega (arith, long, c.loop-number-test.true, c.requires.within))
    (none c.loop-number.number (omega arith) (omega arith)) (c.loop-number.invariant keeps all long none is)
