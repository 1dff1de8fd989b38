use Rattle.sc_types_scope.proofs.Common.{are_distinct, member_names, take, ◌≡◌}
use Rattle.sc_types_scope.proofs.distinct.members_distinct.Given as goal

abbrev pub invariant-loop-member : goal.invariant-loop-member
invariant-loop-member l = record {
  pushed : l.names ≡ member_names (take l.member-index l.members);
  distinct : l.distinct ≡ are_distinct l.names;
}
