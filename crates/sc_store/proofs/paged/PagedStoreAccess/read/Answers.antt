use Rattle.sc_store.proofs.Common.{Some, ap, arith, cell, length, sym, ◌∙◌}
use Rattle.sc_store.proofs.Places.{found_bytes, found_page}
use Rattle.sc_store.proofs.paged.PagedStoreAccess.read.Goals as goal

pub read-requires-clause-there : goal.read-requires-clause-there
read-requires-clause-there c =
    omega (
      arith,
      found_page c.args.self.now.areas.items (length c.args.self.now.cells.table.items) c.args.at
          (length c.args.into.now) c.in-Some.place c.place.result c.args.self.now.apart c.args.self.now.placed
          c.place.ensures c.in-Some.is c.requires.some,
    )

pub returns-in-Some-clause-bytes : goal.returns-in-Some-clause-bytes
returns-in-Some-clause-bytes c = λ t k h.
    found_bytes c.args.self.now.areas.items (cell c.args.self.now.cells.table.items c.args.self.now.cells.pool)
    c.args.at (length c.args.into.now) c.in-Some.place c.place.result c.args.self.now.apart c.place.ensures
    c.in-Some.is k (omega arith)
    ∙ ap Some (sym (c.read.ensures k h))
