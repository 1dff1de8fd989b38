use Rattle.sc_machine.proofs.Common.{◌∙◌}
use Rattle.sc_machine.proofs.Start.{next_regions}
use Rattle.sc_machine.proofs.loading.regions.Goals as goal

pub loop-number-preserved : goal.loop-number-preserved
loop-number-preserved c =
    c.in_ok-add_data.ensures ∙
    rw c.comp_id.ensures
    (next_regions c.args.comps.now c.loop-number.number c.index-comps-number.result c.loop-number.regions.items
    c.loop-number-test.true c.index-comps-number.is c.loop-number.invariant)
