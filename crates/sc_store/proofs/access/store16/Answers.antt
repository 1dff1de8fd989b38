use Rattle.sc_store.proofs.Common.{arith}
use Rattle.sc_store.proofs.Parts.{store_written}
use Rattle.sc_store.proofs.access.store16.Goals as goal

pub returns-else-not-write : goal.returns-else-not-write
returns-else-not-write g c =
    store_written (g.S.Access.bytes c.args.store.now)
    (g.S.Access.bytes c.write.new.self) c.args.at c.args.value 2 c.to_le_bytes.result
    (omega arith) (c.write.ensures.written (cc)) c.to_le_bytes.ensures
