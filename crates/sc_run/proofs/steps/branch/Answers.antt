use Rattle.sc_run.proofs.Common.{block_acts, choose, sym, ◌∙◌}
use Rattle.sc_run.proofs.Looping.{step_stops}
use Rattle.sc_run.proofs.Ahead.{choose_goes}
use Rattle.sc_run.proofs.steps.branch.Goals as goal

pub returns-in-Err : goal.returns-in-Err
returns-in-Err c =
    let f = c.args.run.now.frame in
    let program = c.args.program.now in
    step_stops (λ n v s. choose v (block_acts program n f c.args.first.now tt s)
    (block_acts program n f c.args.second.now tt s)) c.in-Err.ensures

pub returns-then-is_true : goal.returns-then-is_true
returns-then-is_true c = choose_goes c.args.program.now c.args.run.now.frame c.args.first c.args.second c.in-Ok.ensures
    (sym c.is_true.ensures ∙ c.if-is_true.true)

pub returns-else-is_true : goal.returns-else-is_true
returns-else-is_true c = choose_goes c.args.program.now c.args.run.now.frame c.args.first c.args.second c.in-Ok.ensures
    (sym c.is_true.ensures ∙ c.if-is_true.false)
