use Rattle.sc_base.specs.Prelude.{most_brackets, most_height}
use Rattle.sc_parse.proofs.Common.{add_local, following, length, separated, ◌+◌, ◌-◌, ◌≡◌}
use Rattle.sc_parse_expr.specs.declared.mark.Mark.TheVariants as mark
use Rattle.sc_parse.proofs.functions.with_locals.Given as goal

-- what is read is what the rest of the loop reads
abbrev pub invariant-loop : goal.invariant-loop
invariant-loop l = separated (following mark.Comma) (add_local most_brackets most_height l.base l.line)
    (length l.initial.rest + 1) l.initial.locals l.initial.rest ≡
    separated (following mark.Comma) (add_local most_brackets most_height l.base l.line)
    (length l.initial.rest + 1 - l.counter) l.locals l.rest
