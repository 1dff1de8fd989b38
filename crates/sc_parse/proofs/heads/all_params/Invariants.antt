use Rattle.sc_parse.proofs.Common.{[], adds, following, length, param_at, separated, ◌+◌, ◌-◌, ◌≡◌}
use Rattle.sc_parse_expr.specs.declared.mark.Mark.TheVariants as mark
use Rattle.sc_parse.proofs.heads.all_params.Given as goal

-- what is read is what the rest of the loop reads
abbrev pub invariant-loop : goal.invariant-loop
invariant-loop l = separated (following mark.Comma) (adds param_at) (length l.initial.rest + 1) []
    l.initial.rest ≡
    separated (following mark.Comma) (adds param_at) (length l.initial.rest + 1 - l.counter) l.params l.rest
