use Rattle.sc_run.proofs.Common.{drop, with_words, ◌++◌, ◌≡◌}
use Rattle.sc_run.proofs.globals.with_words.Given as goal

abbrev pub invariant-loop-at : goal.invariant-loop-at
invariant-loop-at l = l.all ++ with_words (drop l.at l.words) (drop l.at l.cells) ≡ with_words l.words l.cells
