use Rattle.sc_blocks.proofs.Common.{arith, ◌-◌}
use Rattle.sc_blocks.proofs.Removing.{at_least, at_most, few_below}
use Rattle.sc_blocks.proofs.slots.lower.Goals as goal

pub loop-count-init : goal.loop-count-init
loop-count-init c = (omega arith, few_below c.args.slots.now c.args.number)

pub loop-count-preserved : goal.loop-count-preserved
loop-count-preserved c = (
  omega arith,
  at_most c.args.slots.now c.args.number (c.loop-count.count - 1) c.index-slots-count.result
      (omega arith) c.if-slots-count.true,
)

pub returns-else-slots-count-clause-count : goal.returns-else-slots-count-clause-count
returns-else-slots-count-clause-count c = λ from made up.
    let more = at_least c.args.slots.now from made c.args.number (c.loop-count.count - 1) c.index-slots-count.result up
    (omega arith) c.if-slots-count.false in
    omega (arith, more)
