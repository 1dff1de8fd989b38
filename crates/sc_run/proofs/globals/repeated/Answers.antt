use Rattle.sc_run.proofs.Common.{◌∙◌}
use Rattle.sc_run.proofs.Making.{once_more}
use Rattle.sc_run.proofs.globals.repeated.Goals as goal

pub loop-time-preserved : goal.loop-time-preserved
loop-time-preserved c = c.in_ok-append.ensures ∙ once_more c.args.zeros.now c.loop-time.time c.loop-time.invariant
    c.in_ok-from_slice.ensures
