use Rattle.sc_fields.proofs.Common.{fields_at, number_at, ◌-◌, ◌≡◌}
use Rattle.sc_fields.proofs.Loops.{with_prefix}
use Rattle.sc_fields.proofs.reading.several_words.Given as goal

abbrev pub invariant-loop : goal.invariant-loop
invariant-loop g l = with_prefix l.words (fields_at (number_at l.cause 4) (l.count - l.counter) l.bytes.now) ≡
    fields_at (number_at l.cause 4) l.count l.fn.bytes.now
