use Rattle.sc_chain.proofs.Common.{length, map, word_of, ◌-◌}
use Rattle.sc_chain.proofs.ChainFollowing.{IsAt}
use Rattle.sc_chain.proofs.account.chain.Given as goal

abbrev pub invariant-loop-run : goal.invariant-loop-run
invariant-loop-run l =
    IsAt l.source l.given (map word_of l.inputs) l.steps l.trace l.run l.links l.comps

abbrev pub decreases-loop-run : goal.decreases-loop-run
decreases-loop-run l = length l.source.program.interfaces.comps - length l.links
