use Rattle.sc_types.proofs.Common.{drop, structs_from, structs_in, with_lines, ◌≡◌, ◌≤◌}
use Rattle.sc_types.proofs.lines.structs_lines.Given as goal

-- what is noted and what is left to note is what is to be noted; there are no more structs than declarations
abbrev pub invariant-loop-decl : goal.invariant-loop-decl
invariant-loop-decl l = record {
  noted : with_lines l.lines (structs_from l.sizes l.number (structs_in (drop l.decl-index l.decl-items))) ≡
      with_lines l.initial.lines (structs_from l.sizes 0 (structs_in l.decls));
  few : l.number ≤ l.decl-index;
}
