use Rattle.sc_tags.proofs.Bytes.{all_more, not_all}
use Rattle.sc_tags.proofs.Common.{all_tagged, ap, is_tag, refl, sym, tag_at, ◌∙◌}
use Rattle.sc_tags.proofs.owner.all_tagged.Goals as goal

pub loop-place-init : goal.loop-place-init
unfolding all_tagged
loop-place-init c = refl

pub returns-then-not-is_tag : goal.returns-then-not-is_tag
returns-then-not-is_tag c = sym (not_all (tag_at c.args.image.now c.args.ranges.now) c.args.wanted c.args.address
    c.loop-place.place c.args.size c.loop-place-test.true
    (ap (is_tag c.args.wanted) (sym c.tag_at.ensures) ∙ sym c.is_tag.ensures ∙ c.if-not-is_tag.true))

pub loop-place-preserved : goal.loop-place-preserved
loop-place-preserved c = all_more (tag_at c.args.image.now c.args.ranges.now) c.args.wanted c.args.address
    c.loop-place.place c.loop-place.invariant
    (ap (is_tag c.args.wanted) (sym c.tag_at.ensures) ∙ sym c.is_tag.ensures ∙ c.if-not-is_tag.false)
