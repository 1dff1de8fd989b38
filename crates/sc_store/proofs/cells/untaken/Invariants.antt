use Rattle.sc_store.proofs.Common.{None, replicate, ◌≡◌}
use Rattle.sc_store.proofs.cells.untaken.Given as goal

abbrev pub invariant-loop : goal.invariant-loop
invariant-loop l = l.table.items ≡ replicate l.counter None
