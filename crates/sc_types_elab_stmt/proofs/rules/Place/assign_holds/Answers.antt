use Rattle.sc_types_elab_stmt.proofs.Common.{assign_fits, expr_in, going_to, judged, typed, visible, ◌∙◌}
use Rattle.sc_types_elab_stmt.proofs.Ruled.{takes_is}
use Rattle.sc_types_elab_stmt.proofs.rules.Place.assign_holds.Goals as goal

pub returns : goal.returns
unfolding expr_in
returns c scope suits =
    takes_is (visible c.args.self.now.section.now c.args.self.now.function.now) scope c.in_ok-place.place.expr
    c.in_ok-place.place.judged c.in_ok-goes.goes c.takes.result
    (judged scope (going_to c.in_ok-place.place.expr.ty
    (typed (visible c.args.self.now.section.now c.args.self.now.function.now) c.args.value.now)))
    (c.in_ok-place.ensures.judged scope suits) (c.in_ok-goes.ensures scope suits) c.takes.ensures
    ∙ (λ i. assign_fits (judged scope (c.in_ok-place.ensures.expr i))
    (judged scope (going_to (c.in_ok-place.ensures.expr i).ty
    (typed (visible c.args.self.now.section.now c.args.self.now.function.now) c.args.value.now))))
