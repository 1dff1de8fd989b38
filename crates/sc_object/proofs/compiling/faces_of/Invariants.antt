use Rattle.sc_object.proofs.Common.{face_of, map, take, ◌≡◌}
use Rattle.sc_object.proofs.compiling.faces_of.Given as goal

abbrev pub invariant-loop-comp : goal.invariant-loop-comp
invariant-loop-comp l = l.faces ≡ map face_of (take l.comp-index l.comps)
