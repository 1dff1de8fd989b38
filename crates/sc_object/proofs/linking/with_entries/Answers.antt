use Rattle.sc_object.proofs.Common.{arith, with_entries}
use Rattle.sc_object.proofs.Turns.{export_added, exports_done}
use Rattle.sc_object.proofs.linking.with_entries.Goals as goal

pub loop-export-preserved : goal.loop-export-preserved
loop-export-preserved c = record {
  entry = omega (arith, c.loop-export.invariant.entry);
  parts = export_added c.args.comp c.args.exports.now c.loop-export.export-index c.export-item.result
      c.loop-export.parts _ c.loop-export.entry (with_entries c.args.comp 0 c.args.exports.now) c.loop-export-test.true
      c.export-item.is c.loop-export.invariant.entry c.in_ok-push.ensures.ok c.loop-export.invariant.parts;
}

pub returns : goal.returns
returns c = exports_done c.args.comp c.args.exports.now c.loop-export.export-index c.loop-export.parts
    (with_entries c.args.comp 0 c.args.exports.now) c.loop-export-test.false c.loop-export.invariant.parts
