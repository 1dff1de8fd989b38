use Rattle.sc_object.proofs.Common.{drop, faces_keep, ◌≡◌}
use Rattle.sc_object.proofs.rules.faces_keep.Given as goal

abbrev pub invariant-loop-c : goal.invariant-loop-c
invariant-loop-c l = faces_keep l.faces 0 l.faces ≡ faces_keep l.faces l.c (drop l.c l.faces)
