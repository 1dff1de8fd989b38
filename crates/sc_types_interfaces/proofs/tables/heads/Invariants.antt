use Rattle.sc_types_interfaces.proofs.Common.{all_added, drop, heads_in, no_heads, ◌≡◌}
use Rattle.sc_types_interfaces.proofs.tables.heads.Given as goal

abbrev pub invariant-loop-decl : goal.invariant-loop-decl
invariant-loop-decl l = all_added l.known (heads_in (drop l.decl-index l.decls)) ≡ all_added no_heads (heads_in l.decls)
