use Rattle.sc_object.proofs.Common.{face_export_bytes, flat_map, take, ◌++◌, ◌≡◌}
use Rattle.sc_object.proofs.writing.append_exports.Given as goal

abbrev pub invariant-loop-export : goal.invariant-loop-export
invariant-loop-export l = l.text ≡ l.initial.text ++ flat_map face_export_bytes (take l.export-index l.exports)
