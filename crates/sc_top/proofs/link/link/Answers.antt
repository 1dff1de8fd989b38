use Rattle.sc_top.proofs.Common.{rules}
use Rattle.sc_top.proofs.Objects.{join_cause, linked_output}
use Rattle.sc_top.proofs.link.link.Goals as goal

pub returns-in_err-image-clause-cause : goal.returns-in_err-image-clause-cause
returns-in_err-image-clause-cause c =
    let cause = join_cause c.args.bytes c.in_ok-objects.objects _ c.in_ok-objects.ensures.objects
    c.in_err-image.ensures.cause in
    search (rules, cause)

pub returns-clause-ok : goal.returns-clause-ok
returns-clause-ok c =
    linked_output c.args.bytes c.in_ok-write_image.field-0 c.in_ok-objects.objects c.in_ok-image.image
    c.in_ok-objects.ensures.objects c.in_ok-image.ensures.good c.in_ok-image.ensures.image
    c.parts-parts.ensures.well_formed c.in_ok-write_image.ensures
