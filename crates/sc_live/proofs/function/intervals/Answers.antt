use Rattle.sc_live.proofs.Common.{AreIntervals, arith, function_points, subst, sym, ◌<◌, ◌∙◌}
use Rattle.sc_live.proofs.Spans.{are_covering, are_intervals, one_more}
use Rattle.sc_tac.specs.Prelude.{AreCovering}
use Rattle.sc_live.proofs.function.intervals.Goals as goal

pub loop-temp-preserved : goal.loop-temp-preserved
loop-temp-preserved c =
    c.in_ok-push.ensures.ok
    ∙ one_more (function_points c.args.f.now) c.loop-temp.temp c.loop-temp.list c.interval.result c.loop-temp.invariant
    (c.interval.ensures c.args.f.now.temps (function_points c.args.f.now) c.in_ok-walk.ensures.holds
    (subst (λ f. c.loop-temp.temp < f.temps) c.tree.ensures.tree c.loop-temp-test.true))

pub interval-requires : goal.interval-requires
interval-requires c =
    let temp : c.loop-temp.temp < c.args.f.now.temps =
    subst (λ f. c.loop-temp.temp < f.temps) c.tree.ensures.tree c.loop-temp-test.true in
    omega (arith, temp, c.in_ok-walk.ensures.few)

pub new-requires : goal.new-requires
new-requires c =
    subst AreIntervals (sym c.loop-temp.invariant) (are_intervals (function_points c.args.f.now) c.loop-temp.temp)

pub returns-clause-covering : goal.returns-clause-covering
returns-clause-covering c =
    subst (AreCovering (function_points c.args.f.now)) (sym (c.new.ensures ∙ c.loop-temp.invariant))
    (are_covering (function_points c.args.f.now) c.loop-temp.temp)
