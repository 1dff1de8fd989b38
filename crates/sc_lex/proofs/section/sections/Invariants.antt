use Rattle.sc_lex.proofs.Common.{length, ◌-◌}
use Rattle.sc_lex.proofs.Splits.{Progress}
use Rattle.sc_lex.proofs.section.sections.Given as goal

abbrev pub invariant-loop-at : goal.invariant-loop-at
invariant-loop-at l = Progress l.text l.first l.at l.line l.sections

abbrev pub decreases-loop-at : goal.decreases-loop-at
decreases-loop-at l = length l.text - l.at
