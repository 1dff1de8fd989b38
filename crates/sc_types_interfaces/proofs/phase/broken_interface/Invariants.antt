use Rattle.sc_types_interfaces.proofs.Common.{None, [], defines_main, drop, false, lines_broken, list_any, noted_all}
use Rattle.sc_types_interfaces.proofs.Common.{◌||◌, ◌≡◌}
use Rattle.sc_types_interfaces.proofs.phase.broken_interface.Given as goal

abbrev pub invariant-loop-number : goal.invariant-loop-number
invariant-loop-number l =
    (noted_all l.least (lines_broken l.tables l.number l.mains l.before (drop l.number l.sections)) ≡
    noted_all None (lines_broken l.tables 0 false [] l.sections))
    × ((l.mains || list_any defines_main (drop l.number l.sections)) ≡ list_any defines_main l.sections)
