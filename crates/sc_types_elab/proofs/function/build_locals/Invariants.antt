use Rattle.sc_types_elab.proofs.Common.{StandsIn, drop, typed_locals, ◌++◌, ◌≡◌}
use Rattle.sc_types_elab.proofs.function.build_locals.Given as goal

abbrev pub invariant-loop-local : goal.invariant-loop-local
invariant-loop-local l = record {
  stands : StandsIn l.section l.tree l.local-index l.function;
  locals : l.built ++ typed_locals l.section l.tree l.local-index (drop l.local-index l.tree.locals) ≡
      typed_locals l.section l.tree 0 l.tree.locals;
}
