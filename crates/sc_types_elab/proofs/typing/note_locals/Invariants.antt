use Rattle.sc_types_elab.proofs.Common.{StandsIn, called, drop, typed_locals_from, with_lines, ◌≡◌}
use Rattle.sc_types_elab.proofs.typing.note_locals.Given as goal

abbrev pub invariant-loop-local : goal.invariant-loop-local
invariant-loop-local l = record {
  stands : StandsIn l.section l.tree l.local-index l.function;
  lines : with_lines l.lines (typed_locals_from l.section (called l.scope.callees) l.tree l.local-index
      (drop l.local-index l.tree.locals)) ≡ with_lines l.initial.lines
      (typed_locals_from l.section (called l.scope.callees) l.tree 0 l.tree.locals);
}
