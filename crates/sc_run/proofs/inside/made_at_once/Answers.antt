use Rattle.sc_run.proofs.Common.{IfOk-weaker, arith, refl, unless_done}
use Rattle.sc_run.proofs.Invoking.{call_steps_by}
use Rattle.sc_run.proofs.Leading.{onward}
use Rattle.sc_run.proofs.inside.made_at_once.Goals as goal

pub returns-then-are_known : goal.returns-then-are_known
returns-then-are_known c = IfOk-weaker c.called.result _ _
    (λ done h. onward (unless_done done c.called.new.run.taken) _ _ _ _ _ (omega arith)
    (record {
      leads = λ step last ws g k. call_steps_by c.args.program.now c.args.run.now.frame c.args.made.now.to
          c.args.made.now.call.now.target c.args.made.now.line c.as_slice-exprs.ensures refl refl
          (c.if-are_known.ensures.values refl c.args.made.now.line) k;
    }) h) c.called.ensures
