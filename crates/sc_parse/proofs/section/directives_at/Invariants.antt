use Rattle.sc_parse.proofs.Common.{[], directives, length, lines_at, ◌+◌, ◌-◌, ◌≡◌}
use Rattle.sc_parse.proofs.section.directives_at.Given as goal

-- what is read is what the rest of the loop reads
abbrev pub invariant-loop : goal.invariant-loop
invariant-loop l = lines_at (length l.initial.rest + 1) (directives [] []) l.initial.rest ≡
    lines_at (length l.initial.rest + 1 - l.counter) l.found l.rest
