use Rattle.sc_event.proofs.Common.{spaced_words, take, ◌++◌, ◌≡◌}
use Rattle.sc_event.proofs.line.append_words.Given as goal

abbrev pub invariant-loop-word : goal.invariant-loop-word
invariant-loop-word l = l.text ≡ l.fn.text ++ spaced_words (take l.word-index l.words)
