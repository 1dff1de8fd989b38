use Rattle.std.proofs.Common.{Bool, List, drop}
use Rattle.sc_opt.specs.Prelude.{MarksAll, constant_at, source_at}
use Rattle.sc_opt.proofs.uses.+mark.Given as goal

abbrev pub invariant-mark_all-loop-stmt : goal.invariant-mark_all-loop-stmt
invariant-mark_all-loop-stmt l = (after : List Bool) →
    MarksAll (constant_at l.origins.constants) (source_at l.origins.sources) (drop l.stmt-index l.stmts) l.marks after →
    MarksAll (constant_at l.origins.constants) (source_at l.origins.sources) l.stmts l.initial.marks after
