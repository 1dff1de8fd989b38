use Rattle.sc_chain.proofs.Common.{take, ◌≡◌}
use Rattle.sc_chain.proofs.account.copied_comps.Given as goal

abbrev pub invariant-loop-comp : goal.invariant-loop-comp
invariant-loop-comp l = l.copy ≡ take l.comp-index l.comps
