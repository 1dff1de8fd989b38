use Rattle.sc_image.proofs.Common.{drop, is_same_export, pointwise, ◌≡◌}
use Rattle.sc_image.proofs.same.are_same_exports.Given as goal

abbrev pub invariant-loop-i : goal.invariant-loop-i
invariant-loop-i l =
    pointwise is_same_export (drop l.i l.exports) (drop l.i l.others) ≡ pointwise is_same_export l.exports l.others
