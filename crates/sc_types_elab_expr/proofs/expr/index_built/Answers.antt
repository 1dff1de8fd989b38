use Rattle.sc_types_elab_expr.proofs.Common.{ap, is_address, is_int, is_type, judged, sym, ◌&&◌, ◌∙◌}
use Rattle.sc_core.specs.declared.expr.TypedKind
use Rattle.sc_types_elab_expr.proofs.Parts.{place, index_judged}
use Rattle.sc_types_elab_expr.proofs.expr.index_built.Goals as goal

pub returns-clause-judged : goal.returns-clause-judged
returns-clause-judged c scope first second =
    (λ i. place c.unwrap_or-ty.result ((c.is_indexed.ensures ∙
    ap (λ p. is_address c.args.base.judged && (is_int c.args.index.judged &&
    is_type p c.unwrap_or-ty.result)) c.pointed-pointed.ensures) i))
    ∙ index_judged scope c.args.base.expr c.args.index.expr c.args.base.judged c.args.index.judged c.unwrap_or-ty.result
    first second
    ∙ (λ i. judged scope (record {
      ty = c.unwrap_or-ty.result;
      kind = TypedKind.Index (sym c.in_ok-base.ensures i) (sym c.in_ok-index.ensures i);
    }))
