use Rattle.sc_object.proofs.Common.{drop, take, twice_from, [], ◌≡◌}
use Rattle.sc_object.proofs.linking.check_once.Given as goal

abbrev pub invariant-loop-second : goal.invariant-loop-second
invariant-loop-second l =
    twice_from (take l.second l.objects) l.second (drop l.second l.objects) ≡ twice_from [] 0 l.objects
