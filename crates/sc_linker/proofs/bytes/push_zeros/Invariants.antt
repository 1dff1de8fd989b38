use Rattle.sc_linker.proofs.Common.{flat_map, little_bytes, replicate, ◌++◌, ◌≡◌}
use Rattle.sc_linker.proofs.bytes.push_zeros.Given as goal

abbrev pub invariant-loop : goal.invariant-loop
invariant-loop l = l.bytes ≡ l.initial.bytes ++ flat_map (little_bytes 4) (replicate l.counter 0)
