use Rattle.sc_top.proofs.Common.{HasImage, ProgramTree, Run, ap, machine_text, refl, rules, subst, ◌∙◌}
use Rattle.sc_top.proofs.Outputs.{compiled_cause, compiled_output}
use Rattle.sc_top.proofs.text.run.Goals as goal

pub returns-in_err-image-clause-cause : goal.returns-in_err-image-clause-cause
returns-in_err-image-clause-cause c =
    let cause =
    compiled_cause (Run c.args.options.now) c.args.bytes.now c.args.bytes.now c.in_ok-source.source.program _ _
    (λ Q q. q)
    c.program-program.ensures.program c.in_ok-source.ensures.accepted.1 refl refl c.in_err-image.ensures.cause in
    search (rules, cause)

pub returns-clause-ok : goal.returns-clause-ok
returns-clause-ok c =
    let image = c.in_ok-image.image in
    let options = c.args.options.now in
    let same = c.program-program.ensures.program in
    compiled_output (Run options) c.args.bytes.now c.in_ok-compiled_text.field-0 c.in_ok-source.source.program image
    c.in_ok-source.ensures.accepted.1
    (subst (λ (program : ProgramTree). HasImage program image) same c.in_ok-image.ensures.image)
    (c.in_ok-compiled_text.ensures ∙
    ap (λ (program : ProgramTree). machine_text program.interfaces options image) same)
