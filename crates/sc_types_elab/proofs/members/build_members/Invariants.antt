use Rattle.sc_types_elab.proofs.Common.{cells_from, drop, members_from, names_of, ◌++◌, ◌≡◌}
use Rattle.sc_types_elab.proofs.members.build_members.Given as goal

abbrev pub invariant-loop-member : goal.invariant-loop-member
invariant-loop-member l = record {
  members : l.built ++ members_from l.tags l.structs l.cells (drop l.member-index l.members) ≡
      members_from l.tags l.structs 0 l.members;
  names : l.names ≡ names_of l.built;
  cells : cells_from l.tags l.structs l.cells (drop l.member-index l.members) ≡ cells_from l.tags l.structs 0 l.members;
}
