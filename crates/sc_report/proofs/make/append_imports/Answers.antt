use Rattle.sc_report.proofs.Common.{made_import}
use Rattle.sc_report.proofs.Counting.{number_turn}
use Rattle.sc_report.proofs.make.append_imports.Goals as goal

pub loop-j-preserved : goal.loop-j-preserved
loop-j-preserved c =
    number_turn (made_import c.args.size) c.loop-j.j c.args.text.now c.loop-j.text c.append_import.new.text
    c.loop-j.invariant c.in_ok-append_import.ensures
