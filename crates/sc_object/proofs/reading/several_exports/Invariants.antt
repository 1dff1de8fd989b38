use Rattle.sc_object.proofs.Common.{fields_at, read_face_export, ◌-◌, ◌≡◌}
use Rattle.sc_fields.proofs.Loops.{with_prefix}
use Rattle.sc_object.proofs.reading.several_exports.Given as goal

abbrev pub invariant-loop : goal.invariant-loop
invariant-loop l = with_prefix l.exports (fields_at read_face_export (l.count - l.counter) l.bytes.now) ≡
    fields_at read_face_export l.count l.fn.bytes.now
