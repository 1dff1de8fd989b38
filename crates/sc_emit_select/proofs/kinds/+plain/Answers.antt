use Rattle.sc_emit_select.proofs.Common.{all_plain, ap, arith, drop, map, refl, select, stmt_weight, suc, sym, weight}
use Rattle.sc_emit_select.proofs.Common.{◌&&◌, ◌+◌, ◌∙◌, ◌≡◌, ◌≤◌}
use Rattle.sc_emit_select.proofs.Composition.{as_if, fork_heavier, no_heavier}
use Rattle.sc_emit_select.proofs.Turning.{none_left, not_all_plain, plain_if, plain_so_far}
use Rattle.sc_emit_select.proofs.kinds.+plain.Goals as goal

pub all_plain-is_plain-requires : goal.all_plain-is_plain-requires
all_plain-is_plain-requires t c =
    let lighter : stmt_weight c.index-stmts-at.result ≤ weight c.args.stmts.now =
    no_heavier c.args.stmts.now c.loop-at.at c.index-stmts-at.result c.loop-at-test.true c.index-stmts-at.is in
    omega (arith, lighter, c.decreases)

pub all_plain-returns-then-not-is_plain : goal.all_plain-returns-then-not-is_plain
all_plain-returns-then-not-is_plain t c frame places plan =
    sym (c.loop-at.invariant frame places plan ∙
    not_all_plain frame places plan c.args.stmts.now c.loop-at.at _ c.loop-at-test.true c.index-stmts-at.is
    (sym (c.is_plain.ensures frame places plan) ∙ c.if-not-is_plain.true))

pub all_plain-loop-at-preserved : goal.all_plain-loop-at-preserved
all_plain-loop-at-preserved t c frame places plan =
    let next : suc c.loop-at.at ≡ c.loop-at.at + 1 = omega arith in
    c.loop-at.invariant frame places plan ∙
    plain_so_far frame places plan c.args.stmts.now c.loop-at.at _ c.loop-at-test.true c.index-stmts-at.is
    (sym (c.is_plain.ensures frame places plan) ∙ c.if-not-is_plain.false) ∙
    ap (λ n. all_plain (map (select frame places plan) (drop n c.args.stmts.now))) next

pub all_plain-returns : goal.all_plain-returns
all_plain-returns t c frame places plan =
    sym (c.loop-at.invariant frame places plan ∙
    none_left frame places plan c.args.stmts.now c.loop-at.at c.loop-at-test.false)

pub is_plain-returns-then-all_plain : goal.is_plain-returns-then-all_plain
is_plain-returns-then-all_plain t c frame places plan =
    let second = all_plain (map (select frame places plan) c.as_slice-then-all_plain.result.now) in
    c.all_plain-then-all_plain.ensures frame places plan ∙
    sym (ap (λ b. b && second) (sym (c.all_plain.ensures frame places plan) ∙ c.if-all_plain.true)) ∙
    plain_if frame places plan c.args.stmt.now c.in-If.cond c.in-If.then_part c.in-If.else_part
    c.as_slice.result.now c.as_slice-then-all_plain.result.now c.in-If.is c.as_slice.ensures
    c.as_slice-then-all_plain.ensures

pub is_plain-returns-else-all_plain : goal.is_plain-returns-else-all_plain
is_plain-returns-else-all_plain t c frame places plan =
    let second = all_plain (map (select frame places plan) c.in-If.else_part) in
    c.if-all_plain.false ∙
    sym (ap (λ b. b && second) (sym (c.all_plain.ensures frame places plan) ∙ c.if-all_plain.false)) ∙
    plain_if frame places plan c.args.stmt.now c.in-If.cond c.in-If.then_part c.in-If.else_part
    c.as_slice.result.now c.in-If.else_part c.in-If.is c.as_slice.ensures refl
