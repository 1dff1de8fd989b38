use Rattle.sc_top.proofs.Common.{comp_of, map, take, ◌++◌, ◌≡◌}
use Rattle.sc_top.proofs.chain.performers.Given as goal

abbrev pub invariant-loop-comp : goal.invariant-loop-comp
invariant-loop-comp l = l.comps ≡ take l.comp-index l.given

abbrev pub invariant-loop-link : goal.invariant-loop-link
invariant-loop-link l = l.comps ≡ l.given ++ map comp_of (take l.link-index l.links)
