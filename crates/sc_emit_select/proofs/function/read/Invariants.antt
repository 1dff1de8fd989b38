use Rattle.sc_emit_select.proofs.Common.{Line, length, map, relocations_from, ◌++◌, ◌+◌, ◌≡◌}
use Rattle.sc_emit_select.proofs.function.read.Given as goal

-- `at` lines are read
abbrev pub invariant-loop-at : goal.invariant-loop-at
invariant-loop-at l = record {
  count : l.at + length l.lines ≡ length l.initial.lines;
  instrs : l.instrs ++ map (λ (line : Line). line.instr) l.lines ≡ map (λ (line : Line). line.instr) l.initial.lines;
  relocations : l.relocations ++ relocations_from l.at l.lines ≡ relocations_from 0 l.initial.lines;
}
