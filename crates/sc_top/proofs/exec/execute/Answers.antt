use Rattle.sc_top.proofs.Common.{All, Interfaces, IsKnown, ap, machine_run, machine_text, subst, sym, ◌∙◌}
use Rattle.sc_top.proofs.Known.{machine_run_known, executed}
use Rattle.sc_top.proofs.exec.execute.Goals as goal

pub machine_text-requires : goal.machine_text-requires
machine_text-requires c =
    let image = c.in_ok-image.image in
    subst (λ (names : Interfaces). All (IsKnown names) (machine_run c.args.options.now image).state.trace)
    (sym c.in_ok-names.ensures)
    (machine_run_known c.traces_are_legal.ensures c.args.options.now image c.parts-parts.ensures.well_formed)

pub returns-clause-ok : goal.returns-clause-ok
returns-clause-ok c =
    let image = c.in_ok-image.image in
    let printed = c.in_ok-machine_text.ensures ∙
    ap (λ (names : Interfaces). machine_text names c.args.options.now image) c.in_ok-names.ensures in
    executed c.args.options.now c.args.bytes.now c.in_ok-machine_text.field-0 image c.in_ok-image.ensures.image
    c.parts-parts.ensures.well_formed printed
