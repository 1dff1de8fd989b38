use Rattle.sc_base.specs.Prelude.{most_brackets, most_height}
use Rattle.sc_parse.proofs.Common.{[], add_local, declaration_at, grouped, length, no_base, ◌+◌, ◌-◌, ◌≡◌}
use Rattle.sc_parse.proofs.functions.locals_at.Given as goal

-- what is read is what the rest of the loop reads
abbrev pub invariant-loop : goal.invariant-loop
invariant-loop l = grouped no_base (declaration_at (add_local most_brackets most_height))
    (length l.initial.rest + 1) [] l.initial.rest ≡
    grouped no_base (declaration_at (add_local most_brackets most_height))
    (length l.initial.rest + 1 - l.counter) l.locals l.rest
