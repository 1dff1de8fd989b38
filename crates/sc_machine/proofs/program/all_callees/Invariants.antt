use Rattle.sc_machine.proofs.Common.{AreCallees, length, ◌≡◌}
use Rattle.sc_machine.proofs.program.all_callees.Given as goal

abbrev pub invariant-loop-number : goal.invariant-loop-number
invariant-loop-number l = record {
  count : length l.all.items ≡ l.number;
  callees : AreCallees l.image 0 l.all.items;
}
