use Rattle.sc_image.proofs.Common.{AreGiven, ap₂, differing, is_seen_alike, subst, sym, ◌∙◌}
use Rattle.sc_image.proofs.Differing.{are_given, none_but}
use Rattle.sc_image.proofs.given.given_in.Goals as goal

pub returns-then-not-is_seen_alike-clause-none : goal.returns-then-not-is_seen_alike-clause-none
returns-then-not-is_seen_alike-clause-none c =
    let differ = sym (c.if-not-is_seen_alike.ensures ∙
    ap₂ is_seen_alike c.parts-own.ensures.parts c.parts-image.ensures.parts) in
    none_but c.args.own.now c.args.image.now differ

pub returns-clause-given : goal.returns-clause-given
returns-clause-given c =
    let alike = sym (c.if-not-is_seen_alike.ensures ∙
    ap₂ is_seen_alike c.parts-own.ensures.parts c.parts-image.ensures.parts) in
    let same = c.in_ok-given.ensures ∙ ap₂ differing c.parts-own.ensures.parts c.parts-image.ensures.parts in
    subst (AreGiven c.args.own.now c.args.image.now) (sym same)
    (are_given c.args.own.now c.args.image.now c.parts-own.ensures.well_formed c.parts-image.ensures.well_formed alike)
