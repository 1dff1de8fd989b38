use Rattle.sc_tags.proofs.CodeBytes.{regions_more}
use Rattle.std.proofs.Common.{◌∙◌}
use Rattle.sc_tags.proofs.memory.code_regions.Goals as goal

pub loop-number-preserved : goal.loop-number-preserved
loop-number-preserved c =
    c.in_ok-push.ensures.items ∙
    rw (c.code_start.ensures, c.comp_id.ensures, c.len.ensures)
    (regions_more c.args.comps.now c.loop-number.number c.index-comps-number.result c.loop-number.regions.items
    c.loop-number-test.true c.index-comps-number.is c.loop-number.invariant)
