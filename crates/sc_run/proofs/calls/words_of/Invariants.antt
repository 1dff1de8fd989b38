use Rattle.sc_run.proofs.Common.{map, take, word_in, ◌≡◌}
use Rattle.sc_run.proofs.calls.words_of.Given as goal

abbrev pub invariant-loop-value : goal.invariant-loop-value
invariant-loop-value l = l.words ≡ map word_in (take l.value-index l.values)
