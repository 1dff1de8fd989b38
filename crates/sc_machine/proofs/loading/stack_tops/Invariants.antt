use Rattle.sc_machine.proofs.Common.{stack_tops, take, ◌≡◌}
use Rattle.sc_machine.proofs.loading.stack_tops.Given as goal

abbrev pub invariant-loop-number : goal.invariant-loop-number
invariant-loop-number l = l.tops.items ≡ stack_tops 0 (take l.number l.comps)
