use Rattle.sc_run.proofs.Common.{IfOk-weaker, arith, unless_done}
use Rattle.sc_run.proofs.Ahead.{block_as, steps_after}
use Rattle.sc_run.proofs.Leading.{onward}
use Rattle.sc_run.proofs.Looping.{steps_weaken}
use Rattle.sc_run.proofs.inside.run_at_once.Goals as goal

pub returns-in-Some : goal.returns-in-Some
returns-in-Some c = IfOk-weaker c.returned.result _ _
    (λ done k. onward (unless_done done c.returned.new.run.taken) _ _ _ _ _ c.in-Some.ensures.fewer
    (record {
      leads = λ step last ws g h. block_as c.args.program.now c.args.frame.now _ _ c.as_slice-stmts.ensures
          (steps_after c.in-Some.ensures (steps_weaken (omega arith) h));
    }) k) c.returned.ensures
