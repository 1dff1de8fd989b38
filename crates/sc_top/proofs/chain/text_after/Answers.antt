use Rattle.sc_top.proofs.Common.{comp_of, is_listed, ap, ap₂, map, recomposed, take, ◌++◌, ◌∙◌}
use Rattle.std.proofs.lemmas.Result.{IfOk-weaker}
use Rattle.sc_top.proofs.chain.text_after.Goals as goal

pub returns : goal.returns
returns c =
    let comps = c.as_slice-4.ensures ∙ (c.in_ok-comps.ensures ∙
    ap₂ (λ given links. given ++ map comp_of links) c.as_slice-2.ensures
    (c.first_links-first.ensures ∙ ap (take c.args.links) c.as_slice.ensures)) in
    IfOk-weaker c.recomposed_text.result _ _ (λ text is. is ∙
    (λ i. recomposed c.args.source.now (c.as_slice-3.ensures i) (is_listed (comps i)))) c.recomposed_text.ensures
