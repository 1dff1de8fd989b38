use Rattle.sc_report.proofs.Common.{flat_map, take, ◌++◌, ◌≡◌}
use Rattle.sc_report.specs.Report.{given_line}
use Rattle.sc_report.proofs.chain.append_given.Given as goal

abbrev pub invariant-loop-comp : goal.invariant-loop-comp
invariant-loop-comp l = l.text ≡ l.initial.text ++ flat_map (given_line l.interfaces) (take l.comp-index l.given)
