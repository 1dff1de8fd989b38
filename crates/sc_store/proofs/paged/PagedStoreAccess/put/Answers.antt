use Rattle.sc_store.proofs.Common.{ArePlaced, HoldsBytes, [], arith, bytes_in, cell, length, subst, sym, ◌∷◌}
use Rattle.sc_store.proofs.Parts.{byte_holds}
use Rattle.sc_store.proofs.Places.{found_page, found_written}
use Rattle.sc_store.proofs.paged.PagedStoreAccess.put.Goals as goal

pub write-requires-clause-there : goal.write-requires-clause-there
write-requires-clause-there c =
    omega (
      arith,
      found_page c.args.self.now.areas.items (length c.args.self.now.cells.table.items) c.args.at 1
          c.unwrap-place.result c.place.result c.args.self.now.apart c.args.self.now.placed c.place.ensures
          c.unwrap-place.ensures (omega arith),
    )

pub returns : goal.returns
returns c =
    found_written c.args.self.now.areas.items (cell c.args.self.now.cells.table.items c.args.self.now.cells.pool)
    (cell c.write.new.self.table.items c.write.new.self.pool) c.args.at c.unwrap-place.result (c.args.byte ∷ [])
    c.place.result c.args.self.now.apart c.args.self.now.single
    c.place.ensures c.unwrap-place.ensures c.write.ensures.bytes

pub invariant_of-self : goal.invariant_of-self
invariant_of-self c = record {
  apart = c.args.self.now.apart;
  single = c.args.self.now.single;
  focused = c.args.self.now.focused;
  followed = c.args.self.now.followed;
  placed = subst (λ n. ArePlaced c.args.self.now.areas.items n) (sym c.write.ensures.length)
      c.args.self.now.placed;
  holds = subst HoldsBytes
      (sym (found_written c.args.self.now.areas.items
      (cell c.args.self.now.cells.table.items c.args.self.now.cells.pool)
      (cell c.write.new.self.table.items c.write.new.self.pool) c.args.at c.unwrap-place.result (c.args.byte ∷ [])
      c.place.result c.args.self.now.apart c.args.self.now.single
      c.place.ensures c.unwrap-place.ensures c.write.ensures.bytes))
      (byte_holds (bytes_in c.args.self.now) c.args.at c.args.byte c.requires (omega arith) c.args.self.now.holds);
}
