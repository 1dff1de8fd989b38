use Rattle.sc_alloc.proofs.Common.{IsOut, LacksOne, heap_items, subst, sym, ◌∙◌}
use Rattle.std.proofs.Common.{add-one}
use Rattle.sc_alloc.proofs.FreeSlots.{fresh}
use Rattle.sc_alloc.proofs.SoonestSlot.{new_out}
use Rattle.sc_alloc.proofs.slots.Slots.take.Goals as goal

pub returns-in-None-clause-slot : goal.returns-in-None-clause-slot
returns-in-None-clause-slot c slots has =
    let new = c.take_free.new.self in
    let left = c.in-None.ensures.soonest slots has in (
      left.1.all ∙ sym left.0,
      subst (λ count. LacksOne slots (heap_items new.ends) count new.count) (sym (add-one new.count))
          (new_out slots (heap_items new.ends) new.count left.1),
    )

pub returns-in-None-clause-rules : goal.returns-in-None-clause-rules
returns-in-None-clause-rules c placements slots =
    let new = c.take_free.new.self in
    subst (λ count. IsOut placements (heap_items new.ends) count c.args.at new.count) (sym (add-one new.count))
    (fresh placements (heap_items new.ends) new.count c.args.at (c.in-None.ensures.rules placements slots))
