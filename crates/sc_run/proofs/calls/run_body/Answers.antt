use Rattle.sc_run.proofs.Common.{IfOk-weaker, exit_of, ap, arith}
use Rattle.sc_run.proofs.Ahead.{block_as, steps_after, left_after, none_in}
use Rattle.sc_run.proofs.Looping.{work_as, steps_weaken}
use Rattle.sc_run.proofs.Weighing.{place_light}
use Rattle.sc_run.specs.Weights.{block_nodes}
use Rattle.sc_run.proofs.calls.run_body.Goals as goal

pub returns-in-None : goal.returns-in-None
returns-in-None c = IfOk-weaker c.return_to.result _ _
    (λ step h. block_as c.args.program.now c.args.next.now _ _ c.as_slice-stmts.ensures
    (steps_after c.in-None.ensures.passes (steps_weaken (omega arith) h))) c.return_to.ensures

pub returns-in-Some-exit_at_once : goal.returns-in-Some-exit_at_once
returns-in-Some-exit_at_once c = IfOk-weaker c.return_to-in-Some-exit_at_once.result _ _
    (λ step h. block_as c.args.program.now c.args.next.now _ _ c.as_slice-stmts.ensures (steps_weaken
    (omega (arith, ap (λ xs. block_nodes xs) c.as_slice-stmts.ensures)) (left_after c.args.program.now
    c.args.next.now _ c.in-Some.at (exit_of c.in-Some-exit_at_once.exit)
    (none_in c.in-Some.at.part.now c.is_empty.ensures c.if-is_empty.true) c.in-Some.ensures.passes
    c.in-Some-exit_at_once.ensures h))) c.return_to-in-Some-exit_at_once.ensures

pub returns-in_ok-push-in-Some : goal.returns-in_ok-push-in-Some
returns-in_ok-push-in-Some c = IfOk-weaker c.go_on.result _ _
    (λ step h. block_as c.args.program.now c.args.next.now _ _ c.as_slice-stmts.ensures
    (steps_after c.in-Some.ensures.passes (steps_weaken
    (omega (
      arith,
      place_light c.as_slice-stmts.result.now c.in-Some.at c.in-Some.ensures.less,
      ap (λ xs. block_nodes xs)
          c.as_slice-stmts.ensures,
    )) (work_as c.in_ok-push-in-Some.ensures.items h)))) c.go_on.ensures
