use Rattle.sc_emit_select.proofs.Common.{ap, arith, drop, ending_test, length, map, refl, select, suc, sym, ◌+◌, ◌-◌}
use Rattle.sc_emit_select.proofs.Common.{◌∙◌, ◌≡◌}
use Rattle.sc_emit_select.proofs.Turning.{some_last, test_at_last, test_after, test_refused}
use Rattle.sc_emit_select.proofs.kinds.ending_test.Goals as goal

pub loop-at-init : goal.loop-at-init
loop-at-init c frame places plan = refl

pub returns-then-not-is_plain : goal.returns-then-not-is_plain
returns-then-not-is_plain c frame places plan =
    sym (c.loop-at.invariant frame places plan ∙
    test_refused frame places plan c.args.stmts.now c.loop-at.at _ (omega (arith, c.loop-at-test.true))
    c.index-stmts-at.is (sym (c.is_plain.ensures frame places plan) ∙ c.if-not-is_plain.true))

pub loop-at-preserved : goal.loop-at-preserved
loop-at-preserved c frame places plan =
    let next : suc c.loop-at.at ≡ c.loop-at.at + 1 = omega arith in
    c.loop-at.invariant frame places plan ∙
    test_after frame places plan c.args.stmts.now c.loop-at.at _ (omega (arith, c.loop-at-test.true))
    c.index-stmts-at.is (sym (c.is_plain.ensures frame places plan) ∙ c.if-not-is_plain.false) ∙
    ap (λ n. ending_test (map (select frame places plan) (drop n c.args.stmts.now))) next

pub returns : goal.returns
returns c frame places plan =
    let last : c.loop-at.at ≡ length c.args.stmts.now - 1 = omega
    (arith, c.loop-at-test.false, c.loop-at.auto.at-end) in
    c.test_of.ensures frame places plan ∙
    sym (c.loop-at.invariant frame places plan ∙
    ap (λ n. ending_test (map (select frame places plan) (drop n c.args.stmts.now))) last ∙
    test_at_last frame places plan c.args.stmts.now (length c.args.stmts.now - 1) _
    (some_last c.args.stmts.now (sym c.is_empty.ensures ∙ c.if-is_empty.false))
    c.index-stmts-last.is)
