use Rattle.std.proofs.Common.{drop, ◌++◌, ◌≡◌}
use Rattle.sc_tac.proofs.copies.copy_structs.Given as goal

abbrev pub invariant-loop-from : goal.invariant-loop-from
invariant-loop-from l = l.copies ++ drop l.from-index l.structs ≡ l.structs
