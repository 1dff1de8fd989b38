use Rattle.sc_emit_select.proofs.Common.{Bool, List, Marked, drop, map, need, needs_of, row_needs}
use Rattle.sc_emit_select.proofs.needs.Needs.+needs.Given as goal

-- marks that come of the ones so far by what is left come of the first ones by all
abbrev pub invariant-row-loop-stmt : goal.invariant-row-loop-stmt
invariant-row-loop-stmt l = (final : List Bool) →
    Marked (row_needs l.before (map need (drop l.stmt-index l.stmt-items))) l.self final →
    Marked (needs_of l.stmts) l.initial.self final
