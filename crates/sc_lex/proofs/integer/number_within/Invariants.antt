use Rattle.sc_lex.proofs.Numbers.{IsRead}
use Rattle.sc_lex.proofs.integer.number_within.Given as goal

abbrev pub invariant-loop-digit : goal.invariant-loop-digit
invariant-loop-digit l = IsRead l.base l.digits l.digit-index l.value l.greatest
