use Rattle.std.proofs.Common.{drop, ◌++◌, ◌≡◌}
use Rattle.sc_tac.proofs.copies.copy_interfaces.Given as goal

abbrev pub invariant-loop-interface : goal.invariant-loop-interface
invariant-loop-interface l = l.comps ++ drop l.interface-index l.interfaces.comps ≡ l.interfaces.comps
