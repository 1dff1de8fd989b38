use Rattle.sc_types_interfaces.proofs.Placing.{prefix_done, prefix_stopped}
use Rattle.sc_types_interfaces.proofs.building.params.Goals as goal

pub returns-after-loop-param : goal.returns-after-loop-param
returns-after-loop-param c = prefix_done _ c.args.params.now c.loop-param.scalars c.loop-param.param-index
    c.loop-param.invariant.0 c.loop-param-test.false c.loop-param.invariant.1

pub returns-then-is_none : goal.returns-then-is_none
returns-then-is_none c =
    prefix_stopped _ c.args.params.now c.loop-param.scalars c.push.new.self c.loop-param.param-index c.push.result
    c.loop-param.invariant.0 c.loop-param-test.true
    c.loop-param.invariant.1 c.if-is_none.ensures c.push.ensures.within.1 c.push.ensures.full
