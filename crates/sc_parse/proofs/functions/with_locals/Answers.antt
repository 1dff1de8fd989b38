use Rattle.sc_parse.proofs.Common.{arith, ◌∙◌}
use Rattle.sc_parse.proofs.Steps.{item_next}
use Rattle.sc_parse.proofs.functions.with_locals.Goals as goal

pub loop-preserved : goal.loop-preserved
loop-preserved c = c.loop.invariant ∙ item_next _ _ _ _ _ _ _ _ _ (omega arith) c.in_ok-locals.ensures
    (c.skip.ensures.found c.if-not-skip.false)
