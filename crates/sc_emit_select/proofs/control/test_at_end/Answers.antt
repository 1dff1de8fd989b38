use Rattle.sc_emit_select.proofs.Common.{None, ap, ending_test, if◌then◌else◌, map, plan_by, select, sym, ◌∙◌}
use Rattle.sc_emit_select.proofs.control.test_at_end.Goals as goal

pub returns-then-homes : goal.returns-then-homes
returns-then-homes c frame places =
    let plan = plan_by c.args.homes.now.needs.now c.args.homes.now.near in
    c.ending_test.ensures frame places plan ∙
    sym (ap (λ b. if b then ending_test (map (select frame places plan) c.args.head.now) else None) c.if-homes.true)

pub returns : goal.returns
returns c frame places =
    let plan = plan_by c.args.homes.now.needs.now c.args.homes.now.near in
    sym (ap (λ b. if b then ending_test (map (select frame places plan) c.args.head.now) else None) c.if-homes.false)
