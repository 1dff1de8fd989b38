use Rattle.sc_store.proofs.Common.{HoldsBytes, [], arith, bytes_of, subst, sym, ◌∷◌}
use Rattle.sc_store.proofs.Parts.{found_written, found_regions, byte_holds}
use Rattle.sc_store.proofs.flat.FlatStoreAccess.put.Goals as goal

pub returns : goal.returns
returns c =
    found_written c.args.at (c.args.byte ∷ []) c.args.self.now.parts.items c.find.result c.unwrap-place.result
    c.index_mut.result.now c.write.new.self
    c.args.self.now.apart c.find.ensures c.unwrap-place.ensures c.index_mut.ensures.value c.write.ensures.region
    c.write.ensures.bytes

pub invariant_of-self : goal.invariant_of-self
invariant_of-self c = record {
  apart = found_regions c.args.at 1 c.args.self.now.parts.items c.unwrap-place.result c.index_mut.result.now
      c.write.new.self
      c.index_mut.ensures.value c.write.ensures.region c.args.self.now.apart;
  holds = subst HoldsBytes
      (sym (found_written c.args.at (c.args.byte ∷ []) c.args.self.now.parts.items c.find.result c.unwrap-place.result
      c.index_mut.result.now c.write.new.self
      c.args.self.now.apart c.find.ensures c.unwrap-place.ensures c.index_mut.ensures.value c.write.ensures.region
      c.write.ensures.bytes))
      (byte_holds (bytes_of c.args.self.now.parts.items) c.args.at c.args.byte c.requires
      (omega arith) c.args.self.now.holds);
}
