use Rattle.sc_parse.proofs.Common.{adds, following, length, member_at, separated, ◌+◌, ◌-◌, ◌≡◌}
use Rattle.sc_parse_expr.specs.declared.mark.Mark.TheVariants as mark
use Rattle.sc_parse.proofs.members.with_members.Given as goal

-- what is read is what the rest of the loop reads
abbrev pub invariant-loop : goal.invariant-loop
invariant-loop l = separated (following mark.Comma) (adds (member_at l.base))
    (length l.initial.rest + 1) l.initial.members l.initial.rest ≡
    separated (following mark.Comma) (adds (member_at l.base))
    (length l.initial.rest + 1 - l.counter) l.members l.rest
