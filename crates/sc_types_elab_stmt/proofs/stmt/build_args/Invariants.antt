use Rattle.sc_types_elab_stmt.proofs.Common.{args_in, drop, ◌++◌, ◌≡◌}
use Rattle.sc_types_elab_stmt.proofs.stmt.build_args.Given as goal

abbrev pub invariant-loop-arg : goal.invariant-loop-arg
invariant-loop-arg l = l.built ++ args_in l.section l.function l.left (drop l.arg-index l.args) ≡
    args_in l.section l.function l.params l.args
