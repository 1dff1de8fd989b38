use Rattle.sc_fields.proofs.Common.{fields_at, import_at, ◌-◌, ◌≡◌}
use Rattle.sc_fields.proofs.Loops.{with_prefix}
use Rattle.sc_fields.proofs.reading.several_imports.Given as goal

abbrev pub invariant-loop : goal.invariant-loop
invariant-loop g l = with_prefix l.imports (fields_at (import_at l.cause l.comps) (l.count - l.counter) l.bytes.now) ≡
    fields_at (import_at l.cause l.comps) l.count l.fn.bytes.now
