use Rattle.sc_emit_select.proofs.Common.{◌∙◌}
use Rattle.sc_emit_select.proofs.Turning.{test_of_if}
use Rattle.sc_emit_select.proofs.kinds.test_of.Goals as goal

pub returns-in-If : goal.returns-in-If
returns-in-If c frame places plan =
    c.test_of_fork.ensures frame places plan ∙
    test_of_if frame places plan c.args.stmt.now c.in-If.cond c.in-If.then_part c.in-If.else_part _ _ c.in-If.is
    c.as_slice.ensures c.as_slice-in-If.ensures
