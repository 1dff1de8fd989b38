use Rattle.sc_blocks.proofs.Common.{HasCells, Slot, ap}
use Rattle.sc_blocks.proofs.Storing.{slot_there}
use Rattle.sc_blocks.proofs.slots.cells_in.Goals as goal

pub returns-in-Some : goal.returns-in-Some
returns-in-Some c = λ from made up. record {
  slot = c.index-slots-place.result;
  among = slot_there c.args.slots.now from made c.in-Some.place c.args.number c.index-slots-place.result up
      c.in-Some.ensures.within c.in-Some.ensures.found c.index-slots-place.is;
  cells_are = ap (λ (slot : Slot). slot.cells) c.index-slots-place.is;
}
