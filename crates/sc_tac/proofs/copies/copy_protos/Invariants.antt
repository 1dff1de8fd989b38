use Rattle.std.proofs.Common.{drop, ◌++◌, ◌≡◌}
use Rattle.sc_tac.proofs.copies.copy_protos.Given as goal

abbrev pub invariant-loop-proto : goal.invariant-loop-proto
invariant-loop-proto l = l.copies ++ drop l.proto-index l.protos ≡ l.protos
