-- The first section that is left is the one of the number of those that are built.
use Rattle.sc_types_elab.proofs.Common.{ap, drop, slice_get, sym, ◌∙◌}
use Rattle.sc_types_elab.proofs.Programs.{at_head, built_more, is_there, left_from}
use Rattle.sc_types_elab.proofs.program.into_sections.Goals as goal

pub section_at-requires : goal.section_at-requires
section_at-requires c =
    is_there c.args.sections c.args.interfaces.now c.loop-number.number c.remove-section.result c.requires
    (at_head c.args.sections c.loop-number.number c.remove-section.result
    (ap (λ xs. slice_get xs 0) (sym c.loop-number.invariant.0) ∙ c.remove-section.ensures.item))

pub loop-number-preserved : goal.loop-number-preserved
loop-number-preserved c =
    let here = at_head c.args.sections c.loop-number.number c.remove-section.result
    (ap (λ xs. slice_get xs 0) (sym c.loop-number.invariant.0) ∙ c.remove-section.ensures.item) in
    let left = left_from c.args.sections c.loop-number.number c.remove-section.result here in (
      c.remove-section.ensures.rest ∙ ap (λ xs. drop 1 xs) (c.loop-number.invariant.0 ∙ left),
      rw c.in_ok-push.ensures.ok (built_more c.args.sections c.loop-number.built c.loop-number.number
          c.remove-section.result c.in_ok-section_at.field-0 here
          (c.in_ok-section_at.ensures c.args.sections c.requires here) c.loop-number.invariant.1),
    )
