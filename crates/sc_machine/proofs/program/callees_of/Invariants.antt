use Rattle.sc_machine.proofs.Common.{All, IsCallee}
use Rattle.sc_machine.proofs.program.callees_of.Given as goal

abbrev pub invariant-loop-import : goal.invariant-loop-import
invariant-loop-import l = All (IsCallee l.image l.caller) l.callees.items
