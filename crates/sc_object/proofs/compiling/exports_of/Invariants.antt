use Rattle.sc_object.proofs.Common.{face_export, map, take, ◌≡◌}
use Rattle.sc_object.proofs.compiling.exports_of.Given as goal

abbrev pub invariant-loop-export : goal.invariant-loop-export
invariant-loop-export l = l.faces ≡ map face_export (take l.export-index l.exports)
