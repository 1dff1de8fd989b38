use Rattle.sc_types_elab_stmt.proofs.Common.{expr_in, is_scalar, judged, ◌∙◌}
use Rattle.sc_types_elab_stmt.proofs.rules.Place.cond_holds.Goals as goal

pub returns : goal.returns
unfolding expr_in
returns c scope suits =
    c.is_scalar.ensures
    ∙ (λ i. is_scalar (c.in_ok-cond.ensures.judged scope suits i))
    ∙ (λ i. is_scalar (judged scope (c.in_ok-cond.ensures.expr i)))
