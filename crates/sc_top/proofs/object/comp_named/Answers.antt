use Rattle.sc_top.proofs.Common.{Interfaces, ap, ◌∙◌}
use Rattle.sc_top.proofs.Objects.{place_low}
use Rattle.sc_top.proofs.object.comp_named.Goals as goal

pub comp_id-requires : goal.comp_id-requires
comp_id-requires c =
    place_low c.args.program.now c.as_slice.result.now c.in-Some.place c.tree-tree.ensures.typed
    (c.as_slice.ensures ∙ ap (λ (i : Interfaces). i.comps) c.interfaces.ensures) c.in-Some.ensures.within
