use Rattle.sc_image.proofs.Common.{drop, is_same_outside, pointwise, ◌≡◌}
use Rattle.sc_image.proofs.given.are_same_outside.Given as goal

abbrev pub invariant-loop-i : goal.invariant-loop-i
invariant-loop-i l =
    pointwise is_same_outside (drop l.i l.comps) (drop l.i l.others) ≡ pointwise is_same_outside l.comps l.others
