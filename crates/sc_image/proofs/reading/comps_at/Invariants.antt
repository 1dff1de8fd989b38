use Rattle.sc_image.proofs.Common.{read_comp, fields_at, ◌-◌, ◌≡◌}
use Rattle.sc_fields.proofs.Loops.{with_prefix}
use Rattle.sc_image.proofs.reading.comps_at.Given as goal

abbrev pub invariant-loop : goal.invariant-loop
invariant-loop l = with_prefix l.comps (fields_at (read_comp l.version l.count) (l.count - l.counter) l.bytes.now) ≡
    fields_at (read_comp l.version l.count) l.count l.fn.bytes.now
