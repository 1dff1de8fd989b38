use Rattle.sc_top.proofs.Common.{All, Interfaces, IsKnown, ap, subst, sym, ◌∙◌}
use Rattle.sc_top.proofs.Known.{tag_run_known, tagged}
use Rattle.sc_top.specs.Tagged.{tag_run, tag_text}
use Rattle.sc_top.proofs.tags.tags.Goals as goal

pub tag_text-requires-clause-known : goal.tag_text-requires-clause-known
tag_text-requires-clause-known c =
    let image = c.in_ok-image.image in
    subst (λ (names : Interfaces). All (IsKnown names) (tag_run c.args.options.now c.args.range image).state.core.trace)
    (sym c.in_ok-names.ensures)
    (tag_run_known c.tag_traces_are_known.ensures c.args.options.now c.args.range image
    c.parts-parts.ensures.well_formed)

pub returns-clause-ok : goal.returns-clause-ok
returns-clause-ok c =
    let image = c.in_ok-image.image in
    let printed = c.in_ok-tag_text.ensures ∙
    ap (λ (names : Interfaces). tag_text names c.args.options.now c.args.range image) c.in_ok-names.ensures in
    tagged c.args.options.now c.args.range c.args.bytes.now c.in_ok-tag_text.field-0 image c.in_ok-image.ensures.image
    c.parts-parts.ensures.well_formed printed
