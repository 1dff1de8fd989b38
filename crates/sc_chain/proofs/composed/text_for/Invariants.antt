use Rattle.sc_chain.proofs.Common.{drop, text_for, ◌≡◌}
use Rattle.sc_chain.proofs.composed.text_for.Given as goal

-- none of those so far is of the compartment
abbrev pub invariant-loop-replacement : goal.invariant-loop-replacement
invariant-loop-replacement l =
    text_for (drop l.replacement-index l.replacements) l.comp ≡ text_for l.replacements l.comp
