use Rattle.sc_top.proofs.Common.{rules}
use Rattle.sc_top.proofs.Streams.{more_added, part_wrote}
use Rattle.sc_top.proofs.output.write_text.Goals as goal

pub returns-in_err-written : goal.returns-in_err-written
returns-in_err-written g c =
    part_wrote _ c.from_residual.result _ _ _ _ _ _ _ (search rules) c.loop-written.invariant
    c.in_err-written.ensures.nothing c.in_err-written.ensures.cause c.in_err-written.ensures.faults

pub loop-written-preserved : goal.loop-written-preserved
loop-written-preserved g c =
    more_added _ _ _ _ _ _ _ _ _ c.loop-written.invariant c.in_ok-written.ensures.added c.in_ok-written.ensures.within.1
    c.in_ok-written.ensures.faults
