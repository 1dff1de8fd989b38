use Rattle.sc_store.proofs.Common.{HoldsBytes, arith, bytes_of, length, subst, sym}
use Rattle.sc_store.proofs.Parts.{found_written, found_regions, written_holds}
use Rattle.sc_store.proofs.flat.FlatStoreAccess.write.Goals as goal

pub returns-clause-written : goal.returns-clause-written
returns-clause-written c = λ t.
    found_written c.args.at c.args.from.now c.args.self.now.parts.items c.find.result c.in-Some.place
    c.index_mut.result.now c.write.new.self
    c.args.self.now.apart c.find.ensures c.in-Some.is c.index_mut.ensures.value c.write.ensures.region
    c.write.ensures.bytes

pub invariant_of-self : goal.invariant_of-self
invariant_of-self c = record {
  apart = found_regions c.args.at (length c.args.from.now) c.args.self.now.parts.items c.in-Some.place
      c.index_mut.result.now c.write.new.self
      c.index_mut.ensures.value c.write.ensures.region c.args.self.now.apart;
  holds = subst HoldsBytes
      (sym (found_written c.args.at c.args.from.now c.args.self.now.parts.items c.find.result c.in-Some.place
      c.index_mut.result.now c.write.new.self
      c.args.self.now.apart c.find.ensures c.in-Some.is c.index_mut.ensures.value c.write.ensures.region
      c.write.ensures.bytes))
      (written_holds (bytes_of c.args.self.now.parts.items) c.args.at c.args.from.now c.requires.there
      (λ k. omega (arith, c.type_inv.from k)) c.args.self.now.holds);
}
