use Rattle.sc_image.proofs.Common.{fields_at, ◌-◌, ◌≡◌}
use Rattle.sc_image.specs.Reading.{read_export}
use Rattle.sc_fields.proofs.Loops.{with_prefix}
use Rattle.sc_image.proofs.reading.several_exports.Given as goal

abbrev pub invariant-loop : goal.invariant-loop
invariant-loop l = with_prefix l.exports (fields_at read_export (l.count - l.counter) l.bytes.now) ≡
    fields_at read_export l.count l.fn.bytes.now
