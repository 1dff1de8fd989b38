use Rattle.sc_types_elab.proofs.Common.{drop, map, struct_name, structs_in, ◌++◌, ◌≡◌}
use Rattle.sc_types_elab.proofs.section.build_tags.Given as goal

abbrev pub invariant-loop-decl : goal.invariant-loop-decl
invariant-loop-decl l = l.tags ++ map struct_name (structs_in (drop l.decl-index l.decls)) ≡
    map struct_name (structs_in l.decls)
