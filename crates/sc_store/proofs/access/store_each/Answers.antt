use Rattle.sc_store.proofs.Parts.{store_written}
use Rattle.sc_store.proofs.access.store_each.Goals as goal

pub returns : goal.returns
returns g c =
    store_written (g.S.Access.bytes c.args.store.now)
    (g.S.Access.bytes c.write_each.new.store) c.args.at c.args.value c.args.size c.to_le_bytes.result
    c.requires.size c.write_each.ensures c.to_le_bytes.ensures
