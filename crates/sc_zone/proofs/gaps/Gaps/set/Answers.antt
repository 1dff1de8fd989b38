-- Only the place's chunk may have another greatest number.
use Rattle.sc_zone.proofs.Common.{arith, ◌∙◌}
use Rattle.std.proofs.Common.{◌/◌}
use Rattle.std.proofs.lemmas.List.{length-set}
use Rattle.sc_zone.proofs.Widest.{set_widest}
use Rattle.sc_zone.proofs.gaps.Gaps.set.Goals as goal

pub invariant_of-self : goal.invariant_of-self
invariant_of-self c = record {
  room = omega (arith, c.args.self.now.room, c.put.ensures.capacity);
  chunks = length-set c.args.self.now.widest.items (c.args.place / 256) c.widest_now-now.result ∙
      c.args.self.now.chunks;
  are_widest = set_widest c.args.self.now.words.items c.put.new.table.items c.args.self.now.widest.items
      c.deref-2.result.now c.deref.result.now c.args.place c.args.words c.get-before.result c.number_at-widest.result
      c.widest_now-now.result c.args.self.now.are_widest c.put.ensures.numbers c.deref-2.ensures.value
      c.deref.ensures.value c.number_at-widest.ensures c.get-before.ensures
      (omega (arith, c.requires, c.args.self.now.chunks)) c.widest_now-now.ensures;
}
