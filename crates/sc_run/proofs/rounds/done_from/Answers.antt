use Rattle.sc_run.proofs.Common.{IfOk-weaker, arith, unless_done}
use Rattle.sc_run.proofs.Ahead.{none_in}
use Rattle.sc_run.proofs.Leading.{from_place, onward}
use Rattle.sc_run.proofs.rounds.done_from.Goals as goal

pub returns-then-is_empty : goal.returns-then-is_empty
returns-then-is_empty c = IfOk-weaker c.done_with_calls.result _ _
    (λ done h. onward (unless_done done c.done_with_calls.new.run.taken) _ _ _ _ _ (omega arith)
    (from_place c.args.program.now c.args.run.now.frame c.args.stmts.now c.args.at
    (none_in c.args.at.part.now c.is_empty.ensures c.if-is_empty.true)) h) c.done_with_calls.ensures
