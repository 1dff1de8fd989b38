use Rattle.sc_parse.proofs.Common.{add_global, following, length, separated, ◌+◌, ◌-◌, ◌≡◌}
use Rattle.sc_parse_expr.specs.declared.mark.Mark.TheVariants as mark
use Rattle.sc_parse.proofs.globals.with_globals.Given as goal

-- what is read is what the rest of the loop reads
abbrev pub invariant-loop : goal.invariant-loop
invariant-loop l = separated (following mark.Comma) (add_global l.base l.line)
    (length l.initial.rest + 1) l.initial.decls l.initial.rest ≡
    separated (following mark.Comma) (add_global l.base l.line)
    (length l.initial.rest + 1 - l.counter) l.decls l.rest
