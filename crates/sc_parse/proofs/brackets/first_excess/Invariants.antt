use Rattle.sc_parse.proofs.Common.{drop, ◌≡◌}
use Rattle.sc_parse.proofs.Excess.{IsWithin}
use Rattle.sc_parse.proofs.brackets.first_excess.Given as goal

-- `count` brackets are open after the first `at` lexemes, and never too many were
abbrev pub invariant-loop-at : goal.invariant-loop-at
invariant-loop-at l = IsWithin l.lexemes l.at l.count × (l.rest ≡ drop l.at l.lexemes)
