use Rattle.sc_run.proofs.Common.{IfOk-weaker, ap, arith, block_acts, drop_all}
use Rattle.sc_run.proofs.Stating.{first_and_rest, last_steps, list_steps, rest_of}
use Rattle.sc_run.proofs.Looping.{steps_later}
use Rattle.sc_run.proofs.steps.run_first.Goals as goal

pub returns-then-stmts-eq1 : goal.returns-then-stmts-eq1
returns-then-stmts-eq1 c = IfOk-weaker c.statement.result _ _ (λ step h. last_steps c.stmt-item.result
    (first_and_rest c.args.stmts.now c.in-len1-up.len_at_least c.stmt-item.is) c.if-stmts-eq1.true
    h) c.statement.ensures

pub returns-in_ok-push-in-len1-up : goal.returns-in_ok-push-in-len1-up
returns-in_ok-push-in-len1-up c = IfOk-weaker c.statement-in-len1-up.result _ _ (λ step h. list_steps c.stmt-item.result
    _ (first_and_rest c.args.stmts.now c.in-len1-up.len_at_least c.stmt-item.is) (rest_of c.args.stmts.now)
    c.in_ok-push-in-len1-up.ensures.items h) c.statement-in-len1-up.ensures

pub returns-in-empty : goal.returns-in-empty
returns-in-empty c = steps_later (omega arith)
    (λ n s. ap (λ xs. block_acts c.args.program.now n c.args.run.now.frame xs tt s)
    (drop_all 0 c.args.stmts.now (omega (arith, c.in-empty.len_below))))
