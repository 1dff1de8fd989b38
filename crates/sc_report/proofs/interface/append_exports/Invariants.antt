use Rattle.sc_report.proofs.Common.{export_report, flat_map, take, ◌++◌, ◌≡◌}
use Rattle.sc_report.proofs.interface.append_exports.Given as goal

abbrev pub invariant-loop-export : goal.invariant-loop-export
invariant-loop-export l = l.text ≡ l.initial.text ++ flat_map export_report (take l.export-index l.exports)
