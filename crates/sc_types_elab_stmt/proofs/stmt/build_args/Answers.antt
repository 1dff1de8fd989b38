-- Each argument goes to the first of the parameters that are left.
use Rattle.sc_types_elab_stmt.proofs.Common.{ap, args_in, drop_all, ◌∙◌}
use Rattle.sc_types_elab_stmt.proofs.Kept.{args_nil, args_next}
use Rattle.sc_types_elab_stmt.proofs.Loops.{one_more, all_done}
use Rattle.sc_types_elab_stmt.proofs.stmt.build_args.Goals as goal

pub loop-arg-preserved : goal.loop-arg-preserved
loop-arg-preserved c =
    one_more _ c.push.new.self _ _ _ c.in_ok-going_to_some.field-0 c.in_ok-push.ensures.ok
    (args_next c.args.section.now c.args.function.now c.loop-arg.left.now c.args.args.now c.loop-arg.arg-index
    c.arg-item.result c.in_ok-arg.arg.expr c.next_param-param.result.0 c.in_ok-going_to_some.field-0
    c.next_param-param.result.1.now c.loop-arg-test.true c.arg-item.is c.in_ok-arg.ensures.expr
    c.next_param-param.ensures.first c.in_ok-going_to_some.ensures c.next_param-param.ensures.rest)
    c.loop-arg.invariant

pub returns : goal.returns
returns c =
    all_done c.loop-arg.built _ _ (ap (args_in c.args.section.now c.args.function.now c.loop-arg.left.now)
    (drop_all c.loop-arg.arg-index c.args.args.now c.loop-arg-test.false) ∙
    args_nil c.args.section.now c.args.function.now c.loop-arg.left.now) c.loop-arg.invariant
