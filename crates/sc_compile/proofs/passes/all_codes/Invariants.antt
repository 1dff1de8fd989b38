use Rattle.sc_compile.proofs.Common.{All, EmitsAll, flat_map, program_tac, section_codes, take, ◌≡◌}
use Rattle.sc_compile.proofs.passes.all_codes.Given as goal

-- those so far have their codes
abbrev pub invariant-loop-section : goal.invariant-loop-section
invariant-loop-section l = record {
  place : l.number ≡ l.section-index;
  codes : l.codes ≡ flat_map section_codes (take l.section-index (program_tac l.program).sections);
  emitted : All EmitsAll (take l.section-index (program_tac l.program).sections);
}
