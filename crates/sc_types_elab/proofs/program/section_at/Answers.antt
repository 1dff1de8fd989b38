-- A section's interface stands at the section's number.
use Rattle.sc_types_elab.proofs.Common.{sym, ◌∙◌}
use Rattle.sc_types_elab.proofs.Programs.{imports_at}
use Rattle.sc_types_elab.proofs.program.section_at.Goals as goal

pub returns : goal.returns
returns c = λ sections are here.
    c.build_section.ensures sections c.args.number
    (c.as_slice.ensures ∙ imports_at sections c.args.interfaces.now c.args.number c.args.section.now are here
    c.in-Some.interface.now (sym c.in-Some.ensures.value))
