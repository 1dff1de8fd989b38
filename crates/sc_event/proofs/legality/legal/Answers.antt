use Rattle.sc_event.proofs.Common.{IfSome, None, Option, Some, arith, length, subst, sym, ℕ, ◌+◌, ◌<◌, ◌∙◌}
use Rattle.sc_event.proofs.Allowed.{IsOpenAt, begins, ended, goes_on}
use Rattle.sc_event.proofs.legality.legal.Goals as goal

pub loop-at-init : goal.loop-at-init
loop-at-init c = (begins c.args.interfaces.now c.args.events.now, tt)

-- a place before another is one of the trace
within_trace : (pending : Option ℕ) (place count : ℕ) → place < count → IfSome pending (λ call. call < place) →
    IfSome pending (λ call. call < count)
within_trace None place count within earlier = tt
within_trace (Some call) place count within earlier = omega (arith, within, earlier)

pub returns-then-is_end : goal.returns-then-is_end
returns-then-is_end c =
    ended c.args.interfaces.now c.args.events.now c.loop-at.pending c.loop-at.at c.index-events-at.result
    c.loop-at.invariant.0 c.loop-at-test.true c.index-events-at.is
    c.is_allowed.result c.is_allowed.ensures c.if-not-is_allowed.false (sym c.is_end.ensures ∙ c.if-is_end.true)

pub loop-at-preserved : goal.loop-at-preserved
loop-at-preserved c =
    let events = c.args.events.now in
    let earlier = within_trace c.loop-at.pending c.loop-at.at
    (length events) c.loop-at-test.true c.loop-at.invariant.1 in
    let next = goes_on c.args.interfaces.now events c.loop-at.pending c.loop-at.at c.index-events-at.result
    c.loop-at.invariant.0 c.loop-at-test.true c.index-events-at.is
    c.is_allowed.result c.is_allowed.ensures earlier c.if-not-is_allowed.false
    (sym c.is_end.ensures ∙ c.if-is_end.false) in (
      subst (λ pending. IsOpenAt c.args.interfaces.now events pending (c.loop-at.at + 1))
          (sym c.open_after-pending.ensures.call) next,
      c.open_after-pending.ensures.within,
    )
