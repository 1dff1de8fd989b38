use Rattle.sc_lex.proofs.Common.{NoHeading}
use Rattle.sc_lex.proofs.section.next_heading.Given as goal

abbrev pub invariant-loop-at : goal.invariant-loop-at
invariant-loop-at l = NoHeading l.text l.from l.at
