use Rattle.sc_types_interfaces.proofs.Common.{[], drop, exports_broken, with_lines, ◌≡◌}
use Rattle.sc_types_interfaces.proofs.exports.exports_broken.Given as goal

abbrev pub invariant-loop-line : goal.invariant-loop-line
invariant-loop-line l =
    with_lines l.lines (exports_broken l.functions l.before (drop l.line-index l.exports)) ≡
    with_lines l.initial.lines (exports_broken l.functions [] l.exports)
