use Rattle.sc_types_elab_stmt.proofs.Common.{going_to, judged, points, typed, value_in, visible, ◌∙◌}
use Rattle.sc_types_elab_stmt.proofs.rules.Place.free_holds.Goals as goal

pub returns : goal.returns
unfolding value_in
returns c scope suits =
    c.points.ensures
    ∙ (λ i. points (c.in_ok-pointer.ensures.judged scope suits i))
    ∙ (λ i. points (judged scope (c.in_ok-pointer.ensures.expr i)))
    ∙ (λ i. points (judged scope (going_to (c.int_pointer.ensures i)
    (typed (visible c.args.self.now.section.now c.args.self.now.function.now) c.args.pointer.now))))
