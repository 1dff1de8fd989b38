use Rattle.sc_object.proofs.Common.{length}
use Rattle.sc_object.proofs.Cuts.{IsReading}
use Rattle.sc_object.proofs.reading.read_objects.Given as goal

abbrev pub invariant-loop-rest : goal.invariant-loop-rest
invariant-loop-rest l = IsReading l.bytes l.objects l.rest

abbrev pub decreases-loop-rest : goal.decreases-loop-rest
decreases-loop-rest l = length l.rest
