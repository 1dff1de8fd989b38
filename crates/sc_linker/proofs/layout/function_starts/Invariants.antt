use Rattle.sc_linker.proofs.Common.{All, CodeTree, code_sizes, drop, instructions, length, starts, take, ◌*◌, ◌++◌, ◌+◌}
use Rattle.sc_linker.proofs.Common.{◌<◌, ◌≡◌}
use Rattle.sc_linker.proofs.layout.function_starts.Given as goal

-- the codes from this one on begin at `next`
abbrev pub invariant-loop-code : goal.invariant-loop-code
invariant-loop-code l = record {
  starts :
      l.functions ++ starts l.next (code_sizes (drop l.code-index l.codes)) ≡ starts l.address (code_sizes l.codes);
  some : All {X = CodeTree} (λ code. 0 < length code.instrs) (take l.code-index l.codes);
  room : l.next + 4 * instructions (drop l.code-index l.codes) ≡ l.address + 4 * instructions l.codes;
}
