use Rattle.sc_image.proofs.Common.{comps_keep}
use Rattle.sc_image.proofs.Keeping.{refused_by, goes_further, all_kept}
use Rattle.sc_image.proofs.rules.comps_keep.Goals as goal

pub returns-then-not-branch : goal.returns-then-not-branch
returns-then-not-branch c =
    refused_by c.args.parts.now c.args.comps.now c.loop-c.c c.index-comps-c.result
    (comps_keep c.args.parts.now 0 c.args.comps.now) c.in_ok-comp_keeps.field-0
    c.loop-c.invariant c.loop-c-test.true c.index-comps-c.is c.in_ok-comp_keeps.ensures c.if-not-branch.true

pub loop-c-preserved : goal.loop-c-preserved
loop-c-preserved c =
    goes_further c.args.parts.now c.args.comps.now c.loop-c.c c.index-comps-c.result
    (comps_keep c.args.parts.now 0 c.args.comps.now) c.in_ok-comp_keeps.field-0
    c.loop-c.invariant c.loop-c-test.true c.index-comps-c.is c.in_ok-comp_keeps.ensures c.if-not-branch.false

pub returns : goal.returns
returns c = all_kept c.args.parts.now c.args.comps.now c.loop-c.c
    (comps_keep c.args.parts.now 0 c.args.comps.now) c.loop-c.invariant c.loop-c-test.false
