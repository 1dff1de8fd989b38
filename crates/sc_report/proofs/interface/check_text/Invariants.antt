use Rattle.sc_report.proofs.Common.{flat_map, interface_text, take, ◌≡◌}
use Rattle.sc_report.proofs.interface.check_text.Given as goal

abbrev pub invariant-loop-comp : goal.invariant-loop-comp
invariant-loop-comp l = l.text ≡ flat_map (interface_text l.interfaces) (take l.comp-index l.comp-items)
