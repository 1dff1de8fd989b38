use Rattle.sc_top.proofs.Common.{length, ◌-◌}
use Rattle.sc_top.proofs.Streams.{HasAdded}
use Rattle.sc_top.proofs.output.write_text.Given as goal

abbrev pub invariant-loop-written : goal.invariant-loop-written
invariant-loop-written g l =
    HasAdded l.bytes (g.O.Sink.written l.initial.sink) (g.O.Sink.written l.sink) (g.O.Sink.faults l.initial.sink)
    (g.O.Sink.faults l.sink) l.written

abbrev pub decreases-loop-written : goal.decreases-loop-written
decreases-loop-written g l = length l.bytes - l.written
