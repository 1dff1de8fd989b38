use Rattle.sc_types.proofs.Sources.{starts_more}
use Rattle.sc_types.proofs.text.starts_of.Goals as goal

pub loop-section-preserved : goal.loop-section-preserved
loop-section-preserved c =
    rw c.in_ok-push.ensures.ok (starts_more c.args.sections.now c.loop-section.starts c.loop-section.section-index
    c.section-item.result c.loop-section-test.true c.section-item.is c.loop-section.invariant)
