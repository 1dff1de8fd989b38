use Rattle.sc_types_elab.proofs.Common.{calling_heads, drop, head_name, heads_in, map, signature_by, ◌++◌, ◌≡◌}
use Rattle.sc_types_elab.proofs.calls.calling_heads.Given as goal

abbrev pub invariant-loop-decl : goal.invariant-loop-decl
invariant-loop-decl l = record {
  names : l.heads.names ++ map head_name (heads_in (drop l.decl-index l.decls)) ≡ map head_name (calling_heads l.decls);
  signatures : l.heads.signatures ++ map (signature_by l.tags) (heads_in (drop l.decl-index l.decls)) ≡
      map (signature_by l.tags) (calling_heads l.decls);
}
