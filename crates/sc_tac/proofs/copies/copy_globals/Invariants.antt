use Rattle.std.proofs.Common.{drop, ◌++◌, ◌≡◌}
use Rattle.sc_tac.proofs.copies.copy_globals.Given as goal

abbrev pub invariant-loop-global : goal.invariant-loop-global
invariant-loop-global l = l.copies ++ drop l.global-index l.globals ≡ l.globals
