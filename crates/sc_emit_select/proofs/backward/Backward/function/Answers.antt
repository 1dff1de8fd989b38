use Rattle.sc_emit_select.proofs.Common.{Fits, on_ok_weaker, plan_by, subst, sym}
use Rattle.sc_emit_select.proofs.Composition.{function_written}
use Rattle.sc_emit_select.proofs.Weights.{function_fits}
use Rattle.sc_emit_select.proofs.backward.Backward.function.Goals as goal

pub in_order-requires : goal.in_order-requires
in_order-requires c = record {
  fits = subst (λ stmts. Fits c.args.homes.now.frame.now c.args.homes.now.places.now (plan_by c.args.homes.now.needs.now
      c.args.homes.now.near) stmts 0 0) (sym c.as_slice.ensures)
      (function_fits _ _ _ _ c.requires.function c.requires.reached);
}

pub returns : goal.returns
returns c =
    on_ok_weaker c.prologue.result (λ h.
    function_written c.args.homes.now.frame.now c.args.homes.now.places.now (plan_by c.args.homes.now.needs.now
    c.args.homes.now.near) c.args.f.now c.as_slice.result.now c.args.self.now c.closing.new.self c.in_order.new.self
    c.prologue.new.self c.as_slice.ensures c.in_ok-closing.ensures c.in_ok-in_order.ensures h) c.prologue.ensures
