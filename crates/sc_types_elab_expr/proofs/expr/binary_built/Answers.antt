use Rattle.sc_types_elab_expr.proofs.Common.{judged, sym, ◌∙◌}
use Rattle.sc_core.specs.declared.expr.TypedKind
use Rattle.sc_types_elab_expr.proofs.Parts.{value, binary_judged}
use Rattle.sc_types_elab_expr.proofs.expr.binary_built.Goals as goal

pub returns-clause-judged : goal.returns-clause-judged
returns-clause-judged c scope first second =
    (λ i. value c.in_ok-ty.ty (c.in_ok-binary_fits.ensures i))
    ∙ binary_judged scope c.args.op c.in_ok-left.left.expr c.in_ok-right.right.expr c.in_ok-left.left.judged
    c.in_ok-right.right.judged c.in_ok-ty.ty (c.in_ok-left.ensures.judged scope first)
    (c.in_ok-right.ensures.judged scope second)
    ∙ (λ i. judged scope (record {
      ty = c.in_ok-ty.ty;
      kind = TypedKind.Binary c.args.op (sym c.in_ok-left-2.ensures i) (sym c.in_ok-right-2.ensures i);
    }))
