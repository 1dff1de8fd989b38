use Rattle.sc_types_elab_stmt.proofs.Common.{count_fits, expr_in, is_type, judged, option_map, pointer_to, type_of_name}
use Rattle.sc_types_elab_stmt.proofs.Common.{typed, visible, ◌&&◌}
use Rattle.sc_types_elab_stmt.proofs.Ruled.{takes_typed_is}
use Rattle.sc_types_elab_stmt.proofs.rules.Place.malloc_holds.Goals as goal

pub returns : goal.returns
unfolding expr_in
returns c scope suits =
    takes_typed_is (visible c.args.self.now.section.now c.args.self.now.function.now) scope c.in_ok-place.place.expr
    (typed (visible c.args.self.now.section.now c.args.self.now.function.now) c.args.place.now)
    c.in_ok-place.place.judged c.in_ok-goes.goes c.takes.result
    (λ t. is_type (pointer_to (type_of_name c.args.self.now.section.now.tags c.args.of.now)) t &&
    count_fits (option_map (judged scope) (option_map
    (typed (visible c.args.self.now.section.now c.args.self.now.function.now)) c.args.count.now)))
    (c.in_ok-place.ensures.judged scope suits) c.in_ok-place.ensures.expr
    (c.in_ok-goes.ensures scope suits) c.takes.ensures
