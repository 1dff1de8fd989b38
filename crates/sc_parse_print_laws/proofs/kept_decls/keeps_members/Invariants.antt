use Rattle.sc_parse_print_laws.proofs.Common.{drop, kept_member, list_all, ◌≡◌}
use Rattle.sc_parse_print_laws.proofs.kept_decls.keeps_members.Given as goal

-- what is left keeps it exactly where all of them do
abbrev pub invariant-loop-member : goal.invariant-loop-member
invariant-loop-member l = list_all kept_member (drop l.member-index l.members) ≡ list_all kept_member (l.members)
