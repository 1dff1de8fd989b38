use Rattle.sc_object.proofs.Common.{fields_at, face_at, ◌-◌, ◌≡◌}
use Rattle.sc_fields.proofs.Loops.{with_prefix}
use Rattle.sc_object.proofs.reading.faces_at.Given as goal

abbrev pub invariant-loop : goal.invariant-loop
invariant-loop l = with_prefix l.faces (fields_at (face_at l.count) (l.count - l.counter) l.bytes.now) ≡
    fields_at (face_at l.count) l.count l.fn.bytes.now
