-- The tags are those of the section.
use Rattle.sc_types_elab.proofs.Common.{CallsIn, ap, struct_names, subst, ◌∙◌}
use Rattle.sc_types_elab.proofs.section.build_scope.Goals as goal

pub returns-clause-calls : goal.returns-clause-calls
returns-clause-calls c =
    subst (λ t. CallsIn t c.args.section.now c.args.imports.now c.in_ok-callees.callees)
    (c.in_ok-tags.ensures ∙ ap struct_names c.as_slice.ensures) c.in_ok-callees.ensures
