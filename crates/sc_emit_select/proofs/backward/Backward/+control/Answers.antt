use Rattle.sc_emit_select.proofs.Common.{Fits, ap, arith, length, on_ok_weaker, plan_by, refl, select, stmt_weight}
use Rattle.sc_emit_select.proofs.Common.{subst, sym, weight, ◌++◌, ◌+◌, ◌-◌, ◌<◌, ◌∙◌, ◌≡◌, ◌≤◌}
use Rattle.sc_emit_select.proofs.Composition.{as_if, as_loop, joined_by, cycle_heavier, fork_heavier, back_reaches}
use Rattle.sc_emit_select.proofs.Composition.{body_reaches, cycle_written, first_reaches, choice_returns, skip_returns}
use Rattle.sc_emit_select.proofs.Composition.{as_is, head_reaches, next_reaches, over_first, over_reaches, over_second}
use Rattle.sc_emit_select.proofs.Composition.{second_fits, step_fits, step_lighter, step_reaches, unjoined_fits}
use Rattle.sc_emit_select.proofs.Composition.{as_written, is_itself, is_nothing, is_both, none_written, step_written}
use Rattle.sc_emit_select.proofs.Rotating.{all_written, taken_by, prefix_lighter, cycle_fits, cycle_is, lines_reach}
use Rattle.sc_emit_select.proofs.Rotating.{loop_fits, over_reaches as body_over, body_reaches as reaches_body}
use Rattle.sc_emit_select.proofs.Rotating.{head_reaches as reaches_head, next_reaches as reaches_next, rotated_fits}
use Rattle.sc_emit_select.proofs.Rotating.{rotated_is, some_in_head, written_as}
use Rattle.sc_emit_select.proofs.backward.Backward.+control.Goals as goal

-- A CHOICE
pub statement-fork-requires : goal.statement-fork-requires
statement-fork-requires t c =
    let same = as_if _ _ _ _ _ _ c.in-If.is c.as_slice.ensures c.as_slice-in-If.ensures in
    let heavier : weight c.as_slice.result.now + weight c.as_slice-in-If.result.now + 6 ≡
    stmt_weight c.args.stmt.now = fork_heavier _ _ _ _ same in
    (omega (arith, heavier, c.decreases), as_is _ _ _ _ _ _ _ same c.requires.fits)

pub statement-returns-in-If : goal.statement-returns-in-If
statement-returns-in-If t c =
    on_ok_weaker c.fork.result (λ h.
    h ∙ ap (λ s. (select c.args.homes.now.frame.now c.args.homes.now.places.now (plan_by c.args.homes.now.needs.now
    c.args.homes.now.near) s).lines c.args.distances.to_break c.args.distances.to_continue ++ c.args.self.now)
    (sym (as_if _ _ _ _ _ _ c.in-If.is c.as_slice.ensures c.as_slice-in-If.ensures))) c.fork.ensures

pub fork-in_order-requires : goal.fork-in_order-requires
fork-in_order-requires t c =
    (omega (arith, c.decreases), second_fits _ _ _ c.args.cond c.args.first.now c.args.second.now _ _ c.requires.fits)

pub fork-past-requires : goal.fork-past-requires
fork-past-requires t c =
    over_second _ _ _ c.args.cond c.args.first.now c.args.second.now _ _ c.requires.fits _ _ _ _ c.len.ensures
    c.len-end.ensures c.in_ok-in_order.ensures

pub fork-overflow_add-over_second : goal.fork-overflow_add-over_second
fork-overflow_add-over_second t c =
    let reaches = over_reaches c.args.homes.now.frame.now c.args.homes.now.places.now
    (plan_by c.args.homes.now.needs.now c.args.homes.now.near) c.args.cond c.args.first.now
    c.args.second.now _ _ c.requires.fits _ _ _ _ c.len.ensures c.len-end.ensures c.in_ok-in_order.ensures _
    c.is_skip.ensures c.if-is_skip.false _ _ c.len-2.ensures c.in_ok-past.ensures in
    omega (arith, reaches.0)

pub fork-overflow_add-over_second-2 : goal.fork-overflow_add-over_second-2
fork-overflow_add-over_second-2 t c =
    let reaches = over_reaches c.args.homes.now.frame.now c.args.homes.now.places.now
    (plan_by c.args.homes.now.needs.now c.args.homes.now.near) c.args.cond c.args.first.now
    c.args.second.now _ _ c.requires.fits _ _ _ _ c.len.ensures c.len-end.ensures c.in_ok-in_order.ensures _
    c.is_skip.ensures c.if-is_skip.false _ _ c.len-2.ensures c.in_ok-past.ensures in
    omega (arith, reaches.1)

pub fork-in_order-requires-2 : goal.fork-in_order-requires-2
fork-in_order-requires-2 t c = (
  omega (arith, c.decreases),
  first_reaches _ _ _ c.args.cond c.args.first.now c.args.second.now _ _ c.requires.fits _ _ _ _ c.len.ensures
      c.len-end.ensures c.in_ok-in_order.ensures _ c.is_skip.ensures c.if-is_skip.false _ _ c.len-2.ensures
      c.in_ok-past.ensures,
)

pub fork-jump_over-requires : goal.fork-jump_over-requires
fork-jump_over-requires t c =
    over_first _ _ _ c.args.cond c.args.first.now c.args.second.now _ _ c.requires.fits _ _ _ _ c.len.ensures
    c.len-end.ensures c.in_ok-in_order.ensures _ c.is_skip.ensures c.if-is_skip.false _ _ c.len-2.ensures
    c.in_ok-past.ensures _ _ c.len-3.ensures c.in_ok-in_order-2.ensures

pub fork-returns-then-is_skip : goal.fork-returns-then-is_skip
fork-returns-then-is_skip t c =
    skip_returns _ _ _ c.args.cond c.args.first.now c.args.second.now _ _ c.requires.fits _ _ _ _ c.len.ensures
    c.len-end.ensures c.in_ok-in_order.ensures _ c.is_skip.ensures _ _ c.if-is_skip.true c.choice.ensures

pub fork-returns : goal.fork-returns
fork-returns t c =
    choice_returns _ _ _ c.args.cond c.args.first.now c.args.second.now _ _ c.requires.fits _ _ _ _ c.len.ensures
    c.len-end.ensures c.in_ok-in_order.ensures _ c.is_skip.ensures c.if-is_skip.false _ _ c.len-2.ensures
    c.in_ok-past.ensures _ _ c.len-3.ensures c.in_ok-in_order-2.ensures _ _ _ _ c.in_ok-plain.ensures
    c.jump_over.ensures c.choice-2.ensures

-- A LOOP
pub statement-turning-requires : goal.statement-turning-requires
statement-turning-requires t c =
    let same = as_loop _ _ _ _ _ _ _ c.in-Loop.is c.as_slice-in-Loop.ensures c.as_slice-in-Loop-2.ensures
    c.as_slice-in-Loop-3.ensures in
    let heavier : weight c.as_slice-in-Loop.result.now + weight c.as_slice-in-Loop-2.result.now +
    weight c.as_slice-in-Loop-3.result.now + 2 ≡ stmt_weight c.args.stmt.now = cycle_heavier _ _ _ _ same in
    (omega (arith, heavier, c.decreases), loop_fits _ _ _ _ _ _ _ _ _ same c.requires.fits)

pub statement-returns-in-Loop : goal.statement-returns-in-Loop
statement-returns-in-Loop t c =
    on_ok_weaker c.turning.result (λ h.
    h ∙ ap (λ s. (select c.args.homes.now.frame.now c.args.homes.now.places.now (plan_by c.args.homes.now.needs.now
    c.args.homes.now.near) s).lines c.args.distances.to_break
    c.args.distances.to_continue ++ c.args.self.now) (sym (as_loop _ _ _ _ _ _ _ c.in-Loop.is
    c.as_slice-in-Loop.ensures c.as_slice-in-Loop-2.ensures c.as_slice-in-Loop-3.ensures)))
    (c.turning.ensures c.args.distances.to_break c.args.distances.to_continue)

pub turning-slice_bounds-rotated-count : goal.turning-slice_bounds-rotated-count
turning-slice_bounds-rotated-count t c =
    some_in_head c.args.homes.now.frame.now c.args.homes.now.places.now (plan_by c.args.homes.now.needs.now
    c.args.homes.now.near) c.args.head.now _ _
    (c.test_at_end.ensures c.args.homes.now.frame.now c.args.homes.now.places.now) c.in-Some.is

pub turning-rotated-requires : goal.turning-rotated-requires
turning-rotated-requires t c = (
  omega (arith, c.decreases, prefix_lighter c.args.head.now (length c.args.head.now - 1)),
  rotated_fits c.args.homes.now.frame.now c.args.homes.now.places.now (plan_by c.args.homes.now.needs.now
      c.args.homes.now.near) c.args.head.now c.args.body.now c.args.next.now _ c.in-Some.cond
      (c.test_at_end.ensures c.args.homes.now.frame.now c.args.homes.now.places.now) c.in-Some.is c.requires.fits,
)

pub turning-cycle-requires : goal.turning-cycle-requires
turning-cycle-requires t c = (
  omega (arith, c.decreases),
  cycle_fits c.args.homes.now.frame.now c.args.homes.now.places.now (plan_by c.args.homes.now.needs.now
      c.args.homes.now.near) c.args.head.now c.args.body.now c.args.next.now _
      (c.test_at_end.ensures c.args.homes.now.frame.now c.args.homes.now.places.now) c.in-None.is c.requires.fits,
)

pub turning-returns-in-Some : goal.turning-returns-in-Some
turning-returns-in-Some t c to_break to_continue =
    written_as c.args.homes.now.frame.now c.args.homes.now.places.now (plan_by c.args.homes.now.needs.now
    c.args.homes.now.near) c.rotated.result _ _ to_break to_continue _ c.args.self.now
    (rotated_is c.args.homes.now.frame.now c.args.homes.now.places.now (plan_by c.args.homes.now.needs.now
    c.args.homes.now.near) c.args.head.now c.args.body.now c.args.next.now _ c.in-Some.cond
    (c.test_at_end.ensures c.args.homes.now.frame.now c.args.homes.now.places.now) c.in-Some.is)
    (c.rotated.ensures to_break to_continue)

pub turning-returns-in-None : goal.turning-returns-in-None
turning-returns-in-None t c to_break to_continue =
    written_as c.args.homes.now.frame.now c.args.homes.now.places.now (plan_by c.args.homes.now.needs.now
    c.args.homes.now.near) c.cycle.result _ _ to_break to_continue _ c.args.self.now
    (cycle_is c.args.homes.now.frame.now c.args.homes.now.places.now (plan_by c.args.homes.now.needs.now
    c.args.homes.now.near) c.args.head.now c.args.body.now c.args.next.now _
    (c.test_at_end.ensures c.args.homes.now.frame.now c.args.homes.now.places.now) c.in-None.is)
    (c.cycle.ensures to_break to_continue)

pub rotated-part-requires : goal.rotated-part-requires
rotated-part-requires t c = (
  omega (arith, c.decreases),
  reaches_head c.args.homes.now.frame.now c.args.homes.now.places.now (plan_by c.args.homes.now.needs.now
      c.args.homes.now.near) c.args.cond c.args.head.now c.args.body.now c.args.next.now
      c.requires.fits _ c.args.self.now _ _ c.len-end.result c.in_ok-plain.ensures
      (taken_by c.args.homes.now.frame.now c.args.homes.now.places.now (plan_by c.args.homes.now.needs.now
      c.args.homes.now.near) c.args.cond c.register.result 5 _ _ c.register.ensures c.in_ok-take.ensures)
      c.len-end.ensures,
)

pub rotated-part-requires-2 : goal.rotated-part-requires-2
rotated-part-requires-2 t c = (
  omega (arith, c.decreases),
  reaches_next c.args.homes.now.frame.now c.args.homes.now.places.now (plan_by c.args.homes.now.needs.now
      c.args.homes.now.near) c.args.cond c.args.head.now c.args.body.now c.args.next.now
      c.requires.fits _ c.args.self.now _ _ c.len-end.result c.in_ok-plain.ensures
      (taken_by c.args.homes.now.frame.now c.args.homes.now.places.now (plan_by c.args.homes.now.needs.now
      c.args.homes.now.near) c.args.cond c.register.result 5 _ _ c.register.ensures c.in_ok-take.ensures)
      c.len-end.ensures
      _ c.in_ok-part.ensures,
)

pub rotated-part-requires-3 : goal.rotated-part-requires-3
rotated-part-requires-3 t c = (
  omega (arith, c.decreases),
  reaches_body c.args.homes.now.frame.now c.args.homes.now.places.now (plan_by c.args.homes.now.needs.now
      c.args.homes.now.near) c.args.cond c.args.head.now c.args.body.now c.args.next.now
      c.requires.fits _ c.args.self.now _ _ c.len-end.result c.in_ok-plain.ensures
      (taken_by c.args.homes.now.frame.now c.args.homes.now.places.now (plan_by c.args.homes.now.needs.now
      c.args.homes.now.near) c.args.cond c.register.result 5 _ _ c.register.ensures c.in_ok-take.ensures)
      c.len-end.ensures
      _ c.in_ok-part.ensures _ c.in_ok-part-2.ensures,
)

pub rotated-jump_over-requires : goal.rotated-jump_over-requires
rotated-jump_over-requires t c =
    body_over c.args.homes.now.frame.now c.args.homes.now.places.now (plan_by c.args.homes.now.needs.now
    c.args.homes.now.near) c.args.cond c.args.head.now c.args.body.now c.args.next.now
    c.requires.fits _ c.args.self.now _ _ c.len-end.result c.in_ok-plain.ensures
    (taken_by c.args.homes.now.frame.now c.args.homes.now.places.now (plan_by c.args.homes.now.needs.now
    c.args.homes.now.near) c.args.cond c.register.result 5 _ _ c.register.ensures c.in_ok-take.ensures)
    c.len-end.ensures
    _ c.in_ok-part.ensures _ c.in_ok-part-2.ensures _ c.in_ok-part-3.ensures c.len.result c.len-2.result
    c.len-following.result c.len.ensures c.len-2.ensures c.len-following.ensures

pub rotated-branch_back-requires : goal.rotated-branch_back-requires
rotated-branch_back-requires t c =
    lines_reach c.args.homes.now.frame.now c.args.homes.now.places.now (plan_by c.args.homes.now.needs.now
    c.args.homes.now.near) c.args.cond c.args.head.now c.args.body.now c.args.next.now
    c.requires.fits _ c.args.self.now _ _ c.len-end.result c.in_ok-plain.ensures
    (taken_by c.args.homes.now.frame.now c.args.homes.now.places.now (plan_by c.args.homes.now.needs.now
    c.args.homes.now.near) c.args.cond c.register.result 5 _ _ c.register.ensures c.in_ok-take.ensures)
    c.len-end.ensures
    _ c.in_ok-part.ensures _ c.in_ok-part-2.ensures _ c.in_ok-part-3.ensures c.len.result c.len-2.result
    c.len-following.result c.len.ensures c.len-2.ensures c.len-following.ensures

pub rotated-returns : goal.rotated-returns
rotated-returns t c to_break to_continue =
    all_written c.args.homes.now.frame.now c.args.homes.now.places.now (plan_by c.args.homes.now.needs.now
    c.args.homes.now.near) c.args.cond c.args.head.now c.args.body.now c.args.next.now
    c.requires.fits _ c.args.self.now _ _ c.len-end.result c.in_ok-plain.ensures
    (taken_by c.args.homes.now.frame.now c.args.homes.now.places.now (plan_by c.args.homes.now.needs.now
    c.args.homes.now.near) c.args.cond c.register.result 5 _ _ c.register.ensures c.in_ok-take.ensures)
    c.len-end.ensures
    _ c.in_ok-part.ensures _ c.in_ok-part-2.ensures _ c.in_ok-part-3.ensures c.len.result c.len-2.result
    c.len-following.result c.len.ensures c.len-2.ensures c.len-following.ensures
    c.jump_over.result c.branch_back.result _ _ to_break to_continue c.in_ok-plain-2.ensures c.jump_over.ensures
    c.branch_back.ensures c.replace.ensures

pub cycle-part-requires : goal.cycle-part-requires
cycle-part-requires t c = (
  omega (arith, c.decreases),
  next_reaches _ _ _ c.args.head.now c.args.body.now c.args.next.now _ _ _ _ c.requires.fits c.in_ok-plain.ensures
      c.len-end.ensures,
)

pub cycle-part-requires-2 : goal.cycle-part-requires-2
cycle-part-requires-2 t c = (
  omega (arith, c.decreases),
  body_reaches _ _ _ c.args.head.now c.args.body.now c.args.next.now _ _ _ _ _ _ c.requires.fits
      c.in_ok-plain.ensures c.in_ok-part.ensures c.len-end.ensures,
)

pub cycle-part-requires-3 : goal.cycle-part-requires-3
cycle-part-requires-3 t c = (
  omega (arith, c.decreases),
  head_reaches _ _ _ c.args.head.now c.args.body.now c.args.next.now _ _ _ _ _ _ _ _ c.requires.fits
      c.in_ok-plain.ensures c.in_ok-part.ensures c.in_ok-part-2.ensures c.len-end.ensures,
)

pub cycle-jump_back-requires : goal.cycle-jump_back-requires
cycle-jump_back-requires t c =
    back_reaches c.args.homes.now.frame.now c.args.homes.now.places.now
    (plan_by c.args.homes.now.needs.now c.args.homes.now.near)
    c.args.head.now c.args.body.now
    c.args.next.now _ _ _ _ _ _ c.len.result c.len-end.result _ _ _ c.requires.fits c.in_ok-plain.ensures
    c.in_ok-part.ensures c.in_ok-part-2.ensures c.in_ok-part-3.ensures c.len.ensures c.len-end.ensures

pub cycle-returns : goal.cycle-returns
cycle-returns t c to_break to_continue =
    cycle_written c.args.homes.now.frame.now c.args.homes.now.places.now
    (plan_by c.args.homes.now.needs.now c.args.homes.now.near)
    c.args.head.now c.args.body.now
    c.args.next.now to_break to_continue c.len.result c.len-end.result _ _ _ _ _ _ _ _ _ _ c.len.ensures
    c.len-end.ensures c.loop_begins-2.ensures c.in_ok-plain.ensures c.in_ok-part.ensures c.in_ok-part-2.ensures
    c.in_ok-part-3.ensures c.in_ok-plain-2.ensures c.jump_back.ensures c.replace.ensures

pub part-in_order-requires : goal.part-in_order-requires
part-in_order-requires t c = (
  omega (arith, c.decreases),
  subst (λ n. Fits c.args.homes.now.frame.now c.args.homes.now.places.now
      (plan_by c.args.homes.now.needs.now c.args.homes.now.near)
      c.args.part.now
      (n - c.args.end) 0) (sym c.len.ensures) c.requires.fits,
)

-- STATEMENTS IN ORDER
pub in_order-between-requires : goal.in_order-between-requires
in_order-between-requires t c =
    let lighter : stmt_weight c.index-stmts-at.result ≤ weight c.args.stmts.now =
    step_lighter _ _ _ _ refl c.loop-at-test.true c.loop-at.auto.at c.index-stmts-at.is in (
      omega (arith, lighter, c.decreases),
      step_fits _ _ _ _ _ _ _ _ _ _ _ _ _ _ _ refl c.loop-at-test.true c.loop-at.auto.at
          c.index-stmts-at.is (λ frame places. c.role_before-before.ensures frame places c.args.homes.now.near)
          (λ frame places. c.role_at.ensures frame places c.args.homes.now.near) c.requires.fits c.len.ensures
          c.len-end.ensures c.loop-at.invariant,
    )

pub in_order-overflow_add-from_here : goal.in_order-overflow_add-from_here
in_order-overflow_add-from_here t c =
    let reaches : (c.len.result - c.len-end.result + c.args.distances.to_break < 262143) ×
    (c.len.result - c.len-end.result + c.args.distances.to_continue < 262143) =
    step_reaches c.args.homes.now.frame.now c.args.homes.now.places.now
    (plan_by c.args.homes.now.needs.now c.args.homes.now.near) _ _ _ _ _
    _ _ _ _ refl
    c.requires.fits c.len.ensures c.len-end.ensures c.loop-at.invariant in
    omega (arith, reaches.0)

pub in_order-overflow_add-from_here-in-loop-at : goal.in_order-overflow_add-from_here-in-loop-at
in_order-overflow_add-from_here-in-loop-at t c =
    let reaches : (c.len.result - c.len-end.result + c.args.distances.to_break < 262143) ×
    (c.len.result - c.len-end.result + c.args.distances.to_continue < 262143) =
    step_reaches c.args.homes.now.frame.now c.args.homes.now.places.now
    (plan_by c.args.homes.now.needs.now c.args.homes.now.near) _ _ _ _ _
    _ _ _ _ refl
    c.requires.fits c.len.ensures c.len-end.ensures c.loop-at.invariant in
    omega (arith, reaches.1)

pub in_order-loop-at-init : goal.in_order-loop-at-init
in_order-loop-at-init t c =
    none_written c.args.homes.now.frame.now c.args.homes.now.places.now
    (plan_by c.args.homes.now.needs.now c.args.homes.now.near)
    c.args.stmts.now
    c.args.distances.to_break c.args.distances.to_continue c.args.self.now

pub in_order-loop-at-preserved : goal.in_order-loop-at-preserved
in_order-loop-at-preserved t c =
    step_written c.args.homes.now.frame.now c.args.homes.now.places.now
    (plan_by c.args.homes.now.needs.now c.args.homes.now.near) _ _ _ _
    c.len.result c.len-end.result _ _ _ _ _
    _ c.loop-at-test.true c.loop-at.auto.at c.index-stmts-at.is
    (λ frame places. c.role_before-before.ensures frame places c.args.homes.now.near)
    (λ frame places. c.role_at.ensures frame places c.args.homes.now.near)
    c.len.ensures c.len-end.ensures c.loop-at.invariant c.in_ok-between.ensures

-- A STATEMENT BETWEEN TWO OTHERS
pub between-statement-requires : goal.between-statement-requires
between-statement-requires t c =
    let frame = c.args.homes.now.frame.now in
    let places = c.args.homes.now.places.now in
    let plan = plan_by c.args.homes.now.needs.now c.args.homes.now.near in (
      omega (arith, c.decreases),
      unjoined_fits frame places plan c.args.before c.args.stmt.now c.args.following c.role_of-role.result
          (c.role_of-role.ensures frame places c.args.homes.now.near) c.joins.result
          (joined_by _ _ c.args.following _ c.role_to_next.ensures c.joins.ensures) c.if-joins.false c.joins-2.result
          c.joins-2.ensures
          c.args.distances.to_break c.args.distances.to_continue c.if-joins-2.false c.requires.fits,
    )

pub between-returns-then-joins : goal.between-returns-then-joins
between-returns-then-joins t c =
    let frame = c.args.homes.now.frame.now in
    let places = c.args.homes.now.places.now in
    let plan = plan_by c.args.homes.now.needs.now c.args.homes.now.near in
    ap (λ p. p.lines c.args.distances.to_break c.args.distances.to_continue ++ c.args.self.now)
    (is_nothing frame places plan c.args.before c.args.stmt.now c.args.following c.role_of-role.result
    (c.role_of-role.ensures frame places c.args.homes.now.near) c.joins.result
    (joined_by _ _ c.args.following _ c.role_to_next.ensures c.joins.ensures) c.if-joins.true)

pub between-returns-then-joins-2 : goal.between-returns-then-joins-2
between-returns-then-joins-2 t c =
    let frame = c.args.homes.now.frame.now in
    let places = c.args.homes.now.places.now in
    let plan = plan_by c.args.homes.now.needs.now c.args.homes.now.near in
    as_written c.as_one.result _ _ c.args.distances.to_break c.args.distances.to_continue _ c.args.self.now
    (is_both frame places plan c.args.before c.args.stmt.now c.args.following c.role_of-role.result
    (c.role_of-role.ensures frame places c.args.homes.now.near) c.joins.result
    (joined_by _ _ c.args.following _ c.role_to_next.ensures c.joins.ensures) c.if-joins.false c.joins-2.result
    c.joins-2.ensures
    c.if-joins-2.true) (c.as_one.ensures c.args.distances.to_break c.args.distances.to_continue)

pub between-returns : goal.between-returns
between-returns t c =
    let frame = c.args.homes.now.frame.now in
    let places = c.args.homes.now.places.now in
    let plan = plan_by c.args.homes.now.needs.now c.args.homes.now.near in
    as_written c.statement.result _ _ c.args.distances.to_break c.args.distances.to_continue _ c.args.self.now
    (is_itself frame places plan c.args.before c.args.stmt.now c.args.following c.role_of-role.result
    (c.role_of-role.ensures frame places c.args.homes.now.near) c.joins.result
    (joined_by _ _ c.args.following _ c.role_to_next.ensures c.joins.ensures) c.if-joins.false c.joins-2.result
    c.joins-2.ensures
    c.if-joins-2.false) c.statement.ensures
