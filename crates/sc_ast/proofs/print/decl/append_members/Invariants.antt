use Rattle.sc_ast.proofs.Common.{drop, flat_map, member_line, text_of, ◌++◌, ◌≡◌}
use Rattle.sc_ast.proofs.print.decl.append_members.Given as goal

-- what is there and what is left to add is what is to be there
abbrev pub invariant-loop-member : goal.invariant-loop-member
invariant-loop-member l = l.out ++ text_of (flat_map member_line (drop l.member-index l.member-items)) ≡
    l.initial.out ++ text_of (flat_map member_line l.members)
