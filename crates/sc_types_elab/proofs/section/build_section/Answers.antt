-- What the tables of calls give is what the program calls.
use Rattle.sc_types_elab.proofs.Common.{IfOk, subst, typed_section, ◌≡◌}
use Rattle.sc_types_elab.proofs.Calling.{called_kept}
use Rattle.sc_types_elab.proofs.section.build_section.Goals as goal

pub returns : goal.returns
returns c sections number e =
    subst (λ k. IfOk c.section_over.result (λ built. built ≡ typed_section c.args.section.now k))
    (called_kept sections number c.args.section.now c.args.imports.now c.in_ok-scope.scope.callees
    c.in_ok-scope.ensures.calls e) c.section_over.ensures
