use Rattle.sc_store.proofs.Common.{arith, length, refl, ◌%◌, ◌+◌, ◌-◌, ◌/◌}
use Rattle.sc_store.proofs.Places.{slot_is, wrote_page}
use Rattle.sc_store.proofs.cells.Cells.write_taken.Goals as goal

pub returns-clause-bytes : goal.returns-clause-bytes
returns-clause-bytes c =
    wrote_page c.args.self.now.table.items c.args.self.now.pool _ c.args.at c.in-Some.id
    (c.args.at % 4096 + length c.args.bytes.now - c.args.at % 4096) c.page_mut.result.now c.args.bytes.now
    c.copy_from_slice.new.self c.args.self.now.distinct
    (slot_is c.args.self.now.table.items (c.args.at / 4096) c.in-Some.id c.index.result.now (omega arith)
    c.index.ensures c.in-Some.is)
    c.page_mut.ensures.bytes (omega arith)
    c.requires.within refl c.copy_from_slice.ensures.after (omega arith)
