use Rattle.sc_image.proofs.Common.{CompPart, ImageParts, List, ap, get_or, length, subst, ◌<◌, ◌∙◌, ◌≡◌}
use Rattle.sc_image.proofs.Keeping.{few_params}
use Rattle.sc_image.proofs.interfaces.image_interfaces.Goals as goal

pub interface_of-requires : goal.interface_of-requires
interface_of-requires c =
    let at = c.loop-comp.comp-index in
    let same : c.as_slice-comp-items.result.now ≡ c.args.image.now.comps =
    c.as_slice-comp-items.ensures ∙ ap (λ (parts : ImageParts). parts.comps) c.parts-parts.ensures.parts in
    few_params c.args.image.now c.parts-parts.ensures.well_formed at c.comp-item.result
    (subst (λ (comps : List CompPart). at < length comps) same c.loop-comp-test.true)
    (subst (λ (comps : List CompPart). c.comp-item.result ≡ get_or comps at c.comp-item.result) same c.comp-item.is)
