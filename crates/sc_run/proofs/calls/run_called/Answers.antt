use Rattle.sc_run.proofs.Common.{IfOk-weaker, block_acts, in_order}
use Rattle.sc_core.specs.Prelude.{take}
use Rattle.sc_run.proofs.Ahead.{stops_anywhere}
use Rattle.sc_run.proofs.Looping.{steps_on, step_stops}
use Rattle.sc_run.proofs.calls.run_called.Goals as goal

pub returns-in-Ok : goal.returns-in-Ok
returns-in-Ok c =
    let f = c.args.next.now in
    let program = c.args.program.now in
    IfOk-weaker c.run_body.result _ _ (λ step h. steps_on
    (λ n left s. take (in_order left.exit) (block_acts program n f f.function.now.body) left.carried s) c.in-Ok.ensures
    h) c.run_body.ensures

pub returns-in-Err : goal.returns-in-Err
returns-in-Err c =
    let f = c.args.next.now in
    let program = c.args.program.now in
    stops_anywhere (step_stops
    (λ n left s. take (in_order left.exit) (block_acts program n f f.function.now.body) left.carried s)
    c.in-Err.ensures)
