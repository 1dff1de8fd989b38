use Rattle.sc_machine.proofs.Common.{take, written, ◌≡◌}
use Rattle.sc_machine.proofs.loading.fill.Given as goal

abbrev pub invariant-loop-k : goal.invariant-loop-k
invariant-loop-k g l = g.S.Store.bytes l.memory ≡ written (g.S.Store.bytes l.fn.memory) l.start (take l.k l.bytes)
