use Rattle.sc_object.proofs.Common.{ap, joined_part, joined_parts, object_for, ◌∙◌}
use Rattle.sc_object.proofs.Turns.{part_added, parts_done}
use Rattle.sc_object.proofs.linking.joined_parts.Goals as goal

pub loop-number-preserved : goal.loop-number-preserved
loop-number-preserved c =
    part_added c.args.objects.now c.args.faces.now c.loop-number.number c.index-faces-number.result c.loop-number.parts
    _ c.in_ok-part.part (joined_parts c.args.objects.now 0 c.args.faces.now) c.loop-number-test.true
    c.index-faces-number.is
    (c.in_ok-part.ensures ∙ (ap (joined_part c.comp_id-comp.result c.index-faces-number.result) c.object_for.ensures ∙
    ap (λ k. joined_part k c.index-faces-number.result (object_for c.args.objects.now k)) c.comp_id-comp.ensures))
    c.in_ok-push.ensures.ok c.loop-number.invariant

pub returns : goal.returns
returns c = parts_done c.args.objects.now c.args.faces.now c.loop-number.number c.loop-number.parts
    (joined_parts c.args.objects.now 0 c.args.faces.now) c.loop-number-test.false c.loop-number.invariant
