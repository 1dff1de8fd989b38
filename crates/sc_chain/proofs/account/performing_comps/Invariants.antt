use Rattle.sc_chain.proofs.Common.{take, ◌≡◌}
use Rattle.sc_chain.specs.Prelude.{performing_comps}
use Rattle.sc_chain.proofs.account.performing_comps.Given as goal

abbrev pub invariant-loop-link : goal.invariant-loop-link
invariant-loop-link l = l.performing ≡ performing_comps l.given (take l.link-index l.links)
