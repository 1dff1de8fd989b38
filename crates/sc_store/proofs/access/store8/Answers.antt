use Rattle.sc_store.proofs.Parts.{byte_stored}
use Rattle.sc_store.proofs.access.store8.Goals as goal

pub returns : goal.returns
returns g c =
    byte_stored (g.S.Access.bytes c.args.store.now)
    (g.S.Access.bytes c.put.new.self) c.args.at c.args.value c.to_le_bytes.result
    c.put.ensures c.to_le_bytes.ensures
