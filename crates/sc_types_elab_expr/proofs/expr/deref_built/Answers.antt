use Rattle.sc_types_elab_expr.proofs.Common.{ap, is_address, is_type, judged, sym, ◌&&◌, ◌∙◌}
use Rattle.sc_core.specs.declared.expr.TypedKind
use Rattle.sc_types_elab_expr.proofs.Parts.{place, deref_judged}
use Rattle.sc_types_elab_expr.proofs.expr.deref_built.Goals as goal

pub returns-clause-judged : goal.returns-clause-judged
returns-clause-judged c scope is =
    (λ i. place c.unwrap_or-ty.result ((c.points_to.ensures ∙
    ap (λ p. is_address c.args.of.judged && is_type p c.unwrap_or-ty.result) c.pointed-pointed.ensures) i))
    ∙ deref_judged scope c.args.of.expr c.args.of.judged c.unwrap_or-ty.result is
    ∙ (λ i. judged scope (record { ty = c.unwrap_or-ty.result; kind = TypedKind.Deref (sym c.in_ok-of.ensures i) }))
