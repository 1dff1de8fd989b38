use Rattle.sc_store.proofs.Common.{arith, cell, get_or, length}
use Rattle.sc_store.proofs.Places.{found_page, read_first}
use Rattle.sc_store.proofs.paged.PagedStoreAccess.byte.Goals as goal

pub read-requires-clause-there : goal.read-requires-clause-there
read-requires-clause-there c =
    omega (
      arith,
      found_page c.args.self.now.areas.items (length c.args.self.now.cells.table.items) c.args.at 1
          c.unwrap-place.result c.place.result c.args.self.now.apart c.args.self.now.placed c.place.ensures
          c.unwrap-place.ensures (omega arith),
    )

pub returns : goal.returns
returns c =
    read_first c.args.self.now.areas.items (cell c.args.self.now.cells.table.items c.args.self.now.cells.pool)
    c.args.at c.unwrap-place.result (get_or c.read.new.into 0 0) c.place.result c.place.ensures c.unwrap-place.ensures
    (c.read.ensures 0 (omega arith))
