use Rattle.sc_lower.proofs.Common.{lowered_function}
use Rattle.sc_lower.proofs.Lowering.{lowerable_at, map_next}
use Rattle.sc_lower.proofs.program.lower_functions.Goals as goal

pub lower_function-requires : goal.lower_function-requires
lower_function-requires c =
    lowerable_at c.args.interfaces.now c.args.comp c.args.structs.now c.args.functions.now c.requires
    c.loop-function.function-index c.function-item.result c.loop-function-test.true c.function-item.is

pub loop-function-preserved : goal.loop-function-preserved
loop-function-preserved c =
    map_next (lowered_function c.args.interfaces.now c.args.comp c.args.structs.now) c.args.functions.now
    c.loop-function.function-index c.function-item.result c.loop-function.lowered c.push.new.self
    c.in_ok-lower_function.field-0 c.loop-function-test.true c.function-item.is c.in_ok-lower_function.ensures
    c.in_ok-push.ensures.ok c.loop-function.invariant
