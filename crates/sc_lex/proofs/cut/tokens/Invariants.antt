use Rattle.sc_lex.proofs.Common.{length, ◌-◌}
use Rattle.sc_lex.proofs.Cuts.{Progress}
use Rattle.sc_lex.proofs.cut.tokens.Given as goal

abbrev pub invariant-loop-at : goal.invariant-loop-at
invariant-loop-at l = Progress l.bytes l.at l.token_line l.found

abbrev pub decreases-loop-at : goal.decreases-loop-at
decreases-loop-at l = length l.bytes - l.at
