use Rattle.sc_types.proofs.Noted.{local-noted, locals-done}
use Rattle.sc_types.proofs.lines.locals_lines.Goals as goal

pub loop-local-preserved : goal.loop-local-preserved
loop-local-preserved c =
    local-noted c.args.sizes.now c.as_slice-local-items.result.now c.loop-local.local-index c.local-item.result _ _
    c.loop-local.lines _ _ c.loop-local-test.true c.local-item.is c.loop-local.invariant c.is_small.ensures
    c.unless.ensures

pub returns : goal.returns
returns c = locals-done c.args.sizes.now c.as_slice-local-items.result.now c.loop-local.local-index _ _ _
    c.loop-local-test.false c.loop-local.invariant
