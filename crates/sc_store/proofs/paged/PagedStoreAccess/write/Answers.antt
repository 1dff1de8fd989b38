use Rattle.sc_store.proofs.Common.{ArePlaced, HoldsBytes, arith, bytes_in, cell, length, subst, sym}
use Rattle.sc_store.proofs.Parts.{written_holds}
use Rattle.sc_store.proofs.Places.{found_page, found_written}
use Rattle.sc_store.proofs.paged.PagedStoreAccess.write.Goals as goal

pub write-requires-clause-there : goal.write-requires-clause-there
write-requires-clause-there c =
    omega (
      arith,
      found_page c.args.self.now.areas.items (length c.args.self.now.cells.table.items) c.args.at
          (length c.args.from.now) c.in-Some.place c.place.result c.args.self.now.apart c.args.self.now.placed
          c.place.ensures c.in-Some.is c.requires.some,
    )

pub returns-in-Some-clause-written : goal.returns-in-Some-clause-written
returns-in-Some-clause-written c = λ t.
    found_written c.args.self.now.areas.items (cell c.args.self.now.cells.table.items c.args.self.now.cells.pool)
    (cell c.write.new.self.table.items c.write.new.self.pool) c.args.at c.in-Some.place c.args.from.now
    c.place.result c.args.self.now.apart c.args.self.now.single c.place.ensures c.in-Some.is c.write.ensures.bytes

pub invariant_of-self : goal.invariant_of-self
invariant_of-self c = record {
  apart = c.args.self.now.apart;
  single = c.args.self.now.single;
  focused = c.args.self.now.focused;
  followed = c.args.self.now.followed;
  placed = subst (λ n. ArePlaced c.args.self.now.areas.items n) (sym c.write.ensures.length)
      c.args.self.now.placed;
  holds = subst HoldsBytes
      (sym (found_written c.args.self.now.areas.items
      (cell c.args.self.now.cells.table.items c.args.self.now.cells.pool)
      (cell c.write.new.self.table.items c.write.new.self.pool) c.args.at c.in-Some.place c.args.from.now
      c.place.result c.args.self.now.apart c.args.self.now.single c.place.ensures c.in-Some.is c.write.ensures.bytes))
      (written_holds (bytes_in c.args.self.now) c.args.at c.args.from.now c.requires.there
      (λ k. omega (arith, c.type_inv.from k)) c.args.self.now.holds);
}
