use Rattle.sc_chain.proofs.Words.{FirstHave}
use Rattle.sc_chain.proofs.replacing.have_words.Given as goal

-- those so far have
abbrev pub invariant-loop-event : goal.invariant-loop-event
invariant-loop-event l = FirstHave l.events l.event-index
