use Rattle.sc_report.proofs.Common.{interface_text}
use Rattle.sc_report.proofs.Pieces.{flat_turn}
use Rattle.sc_report.proofs.interface.check_text.Goals as goal

pub loop-comp-preserved : goal.loop-comp-preserved
loop-comp-preserved c =
    flat_turn (interface_text c.args.interfaces.now) c.as_slice-comp-items.result.now c.loop-comp.comp-index
    c.comp-item.result c.loop-comp.text
    c.append_interface.new.text c.loop-comp-test.true c.comp-item.is c.loop-comp.invariant
    c.in_ok-append_interface.ensures
