use Rattle.sc_emit_select.proofs.Common.{false, replicate, ◌≡◌}
use Rattle.sc_emit_select.proofs.needs.Needs.none.Given as goal

abbrev pub invariant-loop : goal.invariant-loop
invariant-loop l = l.marks ≡ replicate l.counter false
