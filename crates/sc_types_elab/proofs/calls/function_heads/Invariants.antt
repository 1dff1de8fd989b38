use Rattle.sc_types_elab.proofs.Common.{drop, function_name, function_signature, function_decls, map, ◌++◌, ◌≡◌}
use Rattle.sc_types_elab.proofs.calls.function_heads.Given as goal

abbrev pub invariant-loop-decl : goal.invariant-loop-decl
invariant-loop-decl l = record {
  names : l.heads.names ++ map function_name (function_decls (drop l.decl-index l.decls)) ≡
      map function_name (function_decls l.decls);
  signatures : l.heads.signatures ++ map (function_signature l.tags) (function_decls (drop l.decl-index l.decls)) ≡
      map (function_signature l.tags) (function_decls l.decls);
}
