use Rattle.sc_object.proofs.Common.{differ_from, drop, ◌≡◌}
use Rattle.sc_object.proofs.linking.check_program.Given as goal

abbrev pub invariant-loop-second : goal.invariant-loop-second
invariant-loop-second l =
    differ_from l.head l.second (drop l.second l.objects) ≡ differ_from l.head 0 l.objects
