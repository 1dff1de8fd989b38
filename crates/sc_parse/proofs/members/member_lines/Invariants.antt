use Rattle.sc_parse.proofs.Common.{add_member, begins_with, declaration_at, grouped, length, ◌+◌, ◌-◌, ◌≡◌}
use Rattle.sc_parse_expr.specs.declared.mark.Mark.TheVariants as mark
use Rattle.sc_parse.proofs.members.member_lines.Given as goal

-- what is read is what the rest of the loop reads
abbrev pub invariant-loop : goal.invariant-loop
invariant-loop l = grouped (begins_with mark.CloseCurly) (declaration_at add_member)
    (length l.initial.rest + 1) l.initial.members l.initial.rest ≡
    grouped (begins_with mark.CloseCurly) (declaration_at add_member)
    (length l.initial.rest + 1 - l.counter) l.members l.rest
