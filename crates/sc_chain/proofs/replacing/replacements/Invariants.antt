use Rattle.sc_chain.proofs.Common.{map, replacement_of, take, ◌≡◌}
use Rattle.sc_chain.proofs.replacing.replacements.Given as goal

-- those so far are there
abbrev pub invariant-loop-comp : goal.invariant-loop-comp
invariant-loop-comp l = l.items ≡ map (replacement_of l.interfaces l.trace) (take l.comp-index l.comps)
