use Rattle.sc_types_elab.proofs.Common.{[], drop, structs_in, typed_structs, ◌≡◌}
use Rattle.sc_types_elab.proofs.members.build_structs.Given as goal

abbrev pub invariant-loop-decl : goal.invariant-loop-decl
invariant-loop-decl l = typed_structs l.tags l.structs (structs_in (drop l.decl-index l.decls)) ≡
    typed_structs l.tags [] (structs_in l.decls)
