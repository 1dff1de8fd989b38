use Rattle.sc_run.proofs.Common.{block_acts, in_order, ap, arith, sym}
use Rattle.sc_core.specs.Prelude.{take}
use Rattle.sc_run.proofs.Looping.{step_stops, steps_later, steps_on}
use Rattle.sc_run.specs.Weights.{block_nodes}
use Rattle.sc_run.proofs.calls.start.Goals as goal

pub returns-in-Err : goal.returns-in-Err
returns-in-Err c =
    let f = c.args.frame.now in
    let program = c.args.program.now in
    step_stops (λ n left s. take (in_order left.exit) (block_acts program n f f.function.now.body) left.carried s)
    c.in-Err.ensures

pub returns-in-Ok : goal.returns-in-Ok
returns-in-Ok c =
    let f = c.args.frame.now in
    let program = c.args.program.now in
    steps_on (λ n left s. take (in_order left.exit) (block_acts program n f f.function.now.body) left.carried s)
    c.in-Ok.ensures (steps_later (omega (arith, ap (λ xs. block_nodes xs) c.as_slice.ensures))
    (λ n s. ap (λ xs. block_acts program n f xs tt s) (sym c.as_slice.ensures)))
