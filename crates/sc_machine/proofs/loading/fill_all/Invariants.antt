use Rattle.sc_machine.proofs.Common.{all_data, filled_with, take, ◌≡◌}
use Rattle.sc_machine.proofs.loading.fill_all.Given as goal

abbrev pub invariant-loop-number : goal.invariant-loop-number
invariant-loop-number g l = g.S.Store.bytes l.memory ≡
    filled_with (all_data 0 (take l.number l.comps)) (g.S.Store.bytes l.fn.memory)
