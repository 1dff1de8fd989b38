use Rattle.sc_object.proofs.Common.{face_bytes, flat_map, take, ◌++◌, ◌≡◌}
use Rattle.sc_object.proofs.writing.append_faces.Given as goal

abbrev pub invariant-loop-face : goal.invariant-loop-face
invariant-loop-face l = l.text ≡ l.initial.text ++ flat_map face_bytes (take l.face-index l.faces)
