use Rattle.sc_lower.proofs.Common.{drop, fragment_of, in_turn, inits_code, local_beyond, local_nodes, map, total, ◌+◌}
use Rattle.sc_lower.proofs.Common.{◌≡◌, ◌≤◌}
use Rattle.sc_lower.specs.Prelude.{fragment_after}
use Rattle.sc_lower.proofs.function.lower_inits.Given as goal

abbrev pub invariant-loop-local : goal.invariant-loop-local
invariant-loop-local l = record {
  made :
      fragment_after l.stmts
      (in_turn (inits_code l.scope.structs.now l.scope.params l.number (drop l.local-index l.locals)) l.next)
      ≡ fragment_of (in_turn (inits_code l.scope.structs.now l.scope.params 0 l.locals) 0);
  few : l.next + total (map local_nodes (drop l.local-index l.locals)) ≤ total (map local_nodes l.locals);
  near : total (map local_beyond (drop l.local-index l.locals)) ≡ 0;
  counted : l.number + total (map local_nodes (drop l.local-index l.locals)) ≤ total (map local_nodes l.locals);
}
