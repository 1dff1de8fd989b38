use Rattle.sc_object.proofs.Common.{missing_from, ◌-◌, ◌≡◌}
use Rattle.sc_object.proofs.linking.check_all.Given as goal

abbrev pub invariant-loop-number : goal.invariant-loop-number
invariant-loop-number l =
    missing_from l.objects l.number (l.comps - l.number) ≡ missing_from l.objects 0 l.comps
