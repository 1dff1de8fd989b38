use Rattle.sc_object.proofs.Common.{drop, joined_parts, ◌++◌, ◌≡◌}
use Rattle.sc_object.proofs.linking.joined_parts.Given as goal

abbrev pub invariant-loop-number : goal.invariant-loop-number
invariant-loop-number l =
    l.parts ++ joined_parts l.objects l.number (drop l.number l.faces) ≡ joined_parts l.objects 0 l.faces
