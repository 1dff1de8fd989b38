use Rattle.sc_types_scope.proofs.Common.{declared, drop, name_lines_from, section_name_lines, take, with_lines, ◌≡◌}
use Rattle.sc_types_scope.proofs.section.section_lines.Given as goal

-- what is noted and what is left to note is what is to be noted
abbrev pub invariant-loop-decl : goal.invariant-loop-decl
invariant-loop-decl l = record {
  names : l.names ≡ declared l.section (take l.decl-index l.decl-items);
  lines : with_lines l.lines (name_lines_from l.section (take l.decl-index l.decl-items) (drop l.decl-index
      l.decl-items)) ≡
      with_lines l.initial.lines (section_name_lines l.section);
}
