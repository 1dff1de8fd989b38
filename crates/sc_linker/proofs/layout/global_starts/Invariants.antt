use Rattle.sc_linker.proofs.Common.{cells, drop, global_sizes, starts, ◌*◌, ◌++◌, ◌+◌, ◌≡◌}
use Rattle.sc_linker.proofs.layout.global_starts.Given as goal

-- the globals from this one on begin at `next`
abbrev pub invariant-loop-global : goal.invariant-loop-global
invariant-loop-global l = record {
  starts :
      l.all ++ starts l.next (global_sizes l.structs (drop l.global-index l.globals)) ≡
      starts l.address (global_sizes l.structs l.globals);
  room : l.next + 4 * cells l.structs (drop l.global-index l.globals) ≡ l.address + 4 * cells l.structs l.globals;
}
