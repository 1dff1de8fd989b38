use Rattle.sc_object.proofs.Common.{drop, is_same_face, pointwise, ◌≡◌}
use Rattle.sc_object.proofs.same.are_same_faces.Given as goal

abbrev pub invariant-loop-i : goal.invariant-loop-i
invariant-loop-i l =
    pointwise is_same_face (drop l.i l.faces) (drop l.i l.others) ≡ pointwise is_same_face l.faces l.others
