use Rattle.sc_chain.proofs.Common.{joined_text, text_for, ◌++◌, ◌≡◌}
use Rattle.sc_chain.proofs.Joined.{rest_of}
use Rattle.sc_chain.proofs.composed.recompose.Given as goal

-- those so far are there
abbrev pub invariant-loop-number : goal.invariant-loop-number
invariant-loop-number l =
    l.text ++ rest_of (text_for l.replacements) l.number l.source.sections ≡ joined_text l.source (text_for
    l.replacements)
