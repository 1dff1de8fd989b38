use Rattle.sc_types_elab_stmt.proofs.Common.{expr_in, is_int, judged, ◌∙◌}
use Rattle.sc_types_elab_stmt.proofs.rules.Place.is_int.Goals as goal

pub returns : goal.returns
unfolding expr_in
returns c scope suits =
    c.is_int.ensures
    ∙ (λ i. is_int (c.in_ok-built.ensures.judged scope suits i))
    ∙ (λ i. is_int (judged scope (c.in_ok-built.ensures.expr i)))
