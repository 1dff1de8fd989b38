use Rattle.sc_back.proofs.Common.{entry_at, own_row_text, own_rows_text, refl}
use Rattle.sc_back.proofs.Loops.{stepped}
use Rattle.sc_back.proofs.function.append_rows.Goals as goal

pub loop-row-preserved : goal.loop-row-preserved
loop-row-preserved c =
    stepped (own_rows_text c.args.interfaces.now c.args.performer.now.promised (entry_at c.args.performer.now.export))
    c.args.rows.now c.loop-row.row-index c.row-item.result
    (own_row_text c.args.interfaces.now c.args.performer.now.promised (entry_at c.args.performer.now.export)
    c.row-item.result) c.loop-row.text c.append_own_row.new.text _ c.loop-row-test.true c.row-item.is
    c.in_ok-append_own_row.ensures refl c.loop-row.invariant
