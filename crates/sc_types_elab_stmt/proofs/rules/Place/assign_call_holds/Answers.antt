use Rattle.sc_types_elab_stmt.proofs.Common.{call_holds, called, expr_in, result_goes, typed, visible}
use Rattle.sc_types_elab_stmt.proofs.Ruled.{takes_call_is}
use Rattle.sc_types_elab_stmt.proofs.rules.Place.assign_call_holds.Goals as goal

pub returns : goal.returns
unfolding expr_in
returns c scope suits =
    takes_call_is (visible c.args.self.now.section.now c.args.self.now.function.now) scope c.in_ok-place.place.expr
    (typed (visible c.args.self.now.section.now c.args.self.now.function.now) c.args.place.now)
    c.in_ok-place.place.judged c.in_ok-gives.gives c.takes.result
    (call_holds (visible c.args.self.now.section.now c.args.self.now.function.now)
    (called c.args.self.now.section.now.callees) scope c.args.self.now.function.now.result c.args.call.now)
    (result_goes ((called c.args.self.now.section.now.callees).signature c.args.call.now.name))
    (c.in_ok-place.ensures.judged scope suits) c.in_ok-place.ensures.expr
    (c.in_ok-gives.ensures scope suits) c.takes.ensures
