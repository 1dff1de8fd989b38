use Rattle.sc_alloc.proofs.Common.{heap_items}
use Rattle.sc_alloc.proofs.FreeSlots.{slot_given}
use Rattle.sc_alloc.proofs.SoonestSlot.{come_back}
use Rattle.sc_alloc.proofs.slots.Slots.give.Goals as goal

pub returns-clause-slot : goal.returns-clause-slot
returns-clause-slot c slots has =
    let out = c.take-slot.ensures.slot slots has in (
      out.0,
      come_back slots (heap_items c.take-slot.new.self.ends) (heap_items c.push.new.self) c.take-slot.new.self.count
          c.args.interval.now.last c.take-slot.result out.1 c.in_ok-push.ensures.permutation
          (c.in_ok-push.ensures.heap_order out.1.ordered),
    )

pub returns-clause-rules : goal.returns-clause-rules
returns-clause-rules c placements slots =
    let out = c.take-slot.ensures.rules placements slots in (
      slot_given placements c.args.interval.now (heap_items c.take-slot.new.self.ends) (heap_items c.push.new.self)
          c.take-slot.new.self.count c.take-slot.result out c.requires.ordered c.in_ok-push.ensures.permutation,
      out.free,
    )
