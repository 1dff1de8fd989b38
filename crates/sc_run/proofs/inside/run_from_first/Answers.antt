use Rattle.sc_run.proofs.Common.{IfOk-weaker, ap, arith, exit_of, unless_done}
use Rattle.sc_run.proofs.Ahead.{block_as, left_after, none_in, steps_after}
use Rattle.sc_run.proofs.Leading.{onward, was_taken}
use Rattle.sc_run.proofs.Looping.{steps_weaken, work_as}
use Rattle.sc_run.proofs.Weighing.{place_light}
use Rattle.sc_run.specs.Weights.{block_nodes}
use Rattle.sc_run.proofs.inside.run_from_first.Goals as goal

pub returns-in-None : goal.returns-in-None
returns-in-None c = IfOk-weaker c.returned.result _ _
    (λ done h'. onward (unless_done done c.returned.new.run.taken) _ _ _ _ _
    c.in-None.ensures.passes.fewer
    (record {
      leads = λ step last ws g h. block_as c.args.program.now c.args.frame.now _ _ c.as_slice-stmts.ensures
          (steps_after c.in-None.ensures.passes (steps_weaken (omega arith) h));
    }) h') c.returned.ensures

pub returns-in-Some-exit_at_once : goal.returns-in-Some-exit_at_once
returns-in-Some-exit_at_once c = IfOk-weaker c.returned-in-Some-exit_at_once.result _ _
    (λ done h'. onward (unless_done done c.returned-in-Some-exit_at_once.new.run.taken) _ _ _ _ _
    c.in-Some.ensures.passes.fewer
    (record {
      leads = λ step last ws g h. block_as c.args.program.now c.args.frame.now _ _ c.as_slice-stmts.ensures
          (steps_weaken (omega (arith, ap (λ xs. block_nodes xs) c.as_slice-stmts.ensures))
          (left_after c.args.program.now c.args.frame.now _ c.in-Some.at
          (exit_of c.in-Some-exit_at_once.exit)
          (none_in c.in-Some.at.part.now c.is_empty.ensures c.if-is_empty.true)
          c.in-Some.ensures.passes
          c.in-Some-exit_at_once.ensures h));
    }) h') c.returned-in-Some-exit_at_once.ensures

pub returns-in-Ok-Go : goal.returns-in-Ok-Go
returns-in-Ok-Go c = was_taken (unless_done c.keep_now.result c.keep_now.new.taken) _ _ _ _ _ c.keep_now.ensures
    (block_as c.args.program.now c.args.frame.now _ _ c.as_slice-stmts.ensures
    (steps_after c.in-Some.ensures.passes (steps_weaken
    (omega (
      arith,
      place_light c.as_slice-stmts.result.now c.in-Some.at c.in-Some.ensures.less,
      ap (λ xs. block_nodes xs)
          c.as_slice-stmts.ensures,
    )) (work_as c.in_ok-push-in-Some.ensures.items (rw c.in-Ok-Go.field-0-is at c.in-Ok-Go.ensures)))))

pub returns-in-Ok-Stop : goal.returns-in-Ok-Stop
returns-in-Ok-Stop c = was_taken (unless_done c.keep_end.result c.keep_end.new.taken) _ _ _ _ _ c.keep_end.ensures
    (block_as c.args.program.now c.args.frame.now _ _ c.as_slice-stmts.ensures
    (steps_after c.in-Some.ensures.passes (steps_weaken
    (omega (
      arith,
      place_light c.as_slice-stmts.result.now c.in-Some.at c.in-Some.ensures.less,
      ap (λ xs. block_nodes xs)
          c.as_slice-stmts.ensures,
    )) (work_as c.in_ok-push-in-Some.ensures.items (rw c.in-Ok-Stop.field-0-is at c.in-Ok-Stop.ensures)))))
