use Rattle.sc_back.proofs.Common.{export_text, flat_map, refl}
use Rattle.sc_back.proofs.Loops.{stepped}
use Rattle.sc_back.proofs.section.append_exports.Goals as goal

pub loop-export-preserved : goal.loop-export-preserved
loop-export-preserved c =
    stepped (flat_map export_text) c.args.exports.now c.loop-export.export-index c.export-item.result
    (export_text c.export-item.result) c.loop-export.text c.append_export.new.text _ c.loop-export-test.true
    c.export-item.is c.in_ok-append_export.ensures refl c.loop-export.invariant
