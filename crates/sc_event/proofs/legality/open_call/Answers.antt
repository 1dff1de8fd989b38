use Rattle.sc_event.proofs.Common.{arith, get_or, subst, suc, sym, ◌+◌, ◌-◌, ◌∙◌, ◌≡◌}
use Rattle.sc_event.proofs.OpenCalls.{goes_on, few}
use Rattle.sc_event.proofs.legality.open_call.Goals as goal

pub loop-following-preserved : goal.loop-following-preserved
loop-following-preserved c =
    let event = c.index-events-place.result in
    let left : c.args.count - c.loop-following.following ≡ suc (c.args.count - (c.loop-following.following + 1)) =
    omega (arith, c.loop-following-test.true) in
    let place : c.args.count - 1 - c.loop-following.following ≡ c.args.count - (c.loop-following.following + 1) =
    omega arith in
    let here = subst (λ n. event ≡ get_or c.args.events.now n event) place c.index-events-place.is in
    let found = sym c.returned_before.ensures ∙ c.in-Some.is in (
      c.loop-following.invariant.0 ∙ goes_on c.args.events.now _ _ _ _ event left
          (omega (arith, c.requires, c.loop-following-test.true)) here found,
      omega (arith, few event _ _ found, c.loop-following.invariant.1),
    )
