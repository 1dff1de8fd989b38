use Rattle.sc_report.proofs.Common.{map, scalar_word, spaced_names, take, ◌++◌, ◌≡◌}
use Rattle.sc_report.proofs.interface.append_words.Given as goal

abbrev pub invariant-loop-param : goal.invariant-loop-param
invariant-loop-param l = l.text ≡ l.initial.text ++ spaced_names (map scalar_word (take l.param-index l.params))
