use Rattle.sc_live.proofs.Common.{arith, stmt_weight, weight, ◌∙◌, ◌≤◌}
use Rattle.sc_live.proofs.Weights.{no_heavier, stmt_after, stmt_room}
use Rattle.sc_live.proofs.Looping.{cycled}
use Rattle.sc_live.proofs.Walking.{forked, part_walked, stepped}
use Rattle.sc_live.proofs.walk.Walk.+walk.Goals as goal

pub part-returns-clause-walked : goal.part-returns-clause-walked
part-returns-clause-walked t c = part_walked _ _ _ _ _ c.in_ok-continued.ensures c.in_ok-row.ensures.walked

pub row-stmt-requires : goal.row-stmt-requires
row-stmt-requires t c =
    let lighter : stmt_weight c.index-list-at.result ≤ weight c.args.stmts.now =
    no_heavier _ _ _ _ c.as_slice-list.ensures c.loop-at-test.true c.loop-at.invariant.within c.index-list-at.is in (
      omega (arith, lighter, c.decreases),
      stmt_room _ _ _ _ _ _ c.as_slice-list.ensures c.loop-at-test.true c.loop-at.invariant.within c.index-list-at.is
          c.loop-at.invariant.few c.requires,
    )

pub row-loop-at-preserved : goal.row-loop-at-preserved
row-loop-at-preserved t c =
    let on = stepped _ _ _ _ _ _ _ c.loop-at-test.true c.loop-at.invariant.within c.index-list-at.is
    c.loop-at.invariant.walked c.in_ok-stmt.ensures.walked in
    record {
      within = on.0;
      walked = on.1;
      few = stmt_after _ _ _ _ _ _ c.loop-at-test.true c.loop-at.invariant.within c.index-list-at.is
          c.loop-at.invariant.few c.in_ok-stmt.ensures.few;
    }

pub stmt-returns-in_ok-join-in-If-clause-walked : goal.stmt-returns-in_ok-join-in-If-clause-walked
stmt-returns-in_ok-join-in-If-clause-walked t c =
    forked _ _ _ _ _ _ _ _ _ _ _ _ c.in-If.is (c.replace-live.ensures.after ∙ c.in_ok-following-in-If.ensures)
    c.replace-live.ensures.value c.in_ok-row-in-If.ensures.walked c.in_ok-row-in-If-2.ensures.walked
    c.in_ok-join-in-If.ensures.walked

pub stmt-returns-in_ok-part-in-Loop-3-clause-walked : goal.stmt-returns-in_ok-part-in-Loop-3-clause-walked
stmt-returns-in_ok-part-in-Loop-3-clause-walked t c =
    cycled _ _ _ _ _ _ _ _ _ _ _ _ _ _ c.in-Loop.is (c.replace-broken.ensures.after ∙ c.new.ensures)
    c.replace-broken.ensures.value c.pass.ensures.walked c.in_ok-part-in-Loop.ensures.walked
    c.in_ok-part-in-Loop-2.ensures.walked c.in_ok-part-in-Loop-3.ensures.walked c.pass_to.ensures.passed
