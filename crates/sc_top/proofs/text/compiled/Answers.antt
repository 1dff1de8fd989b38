use Rattle.sc_top.proofs.Common.{Compile, HasImage, ProgramTree, refl, rules, subst}
use Rattle.sc_top.proofs.Outputs.{compiled_cause, compiled_output}
use Rattle.sc_top.proofs.text.compiled.Goals as goal

pub returns-in_err-image-clause-cause : goal.returns-in_err-image-clause-cause
returns-in_err-image-clause-cause c =
    let cause = compiled_cause Compile c.args.bytes.now c.args.bytes.now c.in_ok-source.source.program _ _ (λ Q q. q)
    c.program.ensures.program
    c.in_ok-source.ensures.accepted.1 refl refl c.in_err-image.ensures.cause in
    search (rules, cause)

pub returns-clause-ok : goal.returns-clause-ok
returns-clause-ok c =
    let image = c.in_ok-image.image in
    compiled_output Compile c.args.bytes.now c.in_ok-write_image.field-0 c.in_ok-source.source.program image
    c.in_ok-source.ensures.accepted.1
    (subst (λ (program : ProgramTree). HasImage program image) c.program.ensures.program c.in_ok-image.ensures.image)
    c.in_ok-write_image.ensures
