use Rattle.sc_alloc.proofs.Common.{All-from_recursion, IsHeap, IsPermutation, Reverse, SlotEnd, Some, get_or}
use Rattle.sc_alloc.proofs.Common.{heap_items, heap_len, length, rules, slice_get, soonest_first, subst, sym, ◌<◌, ◌∷◌}
use Rattle.sc_alloc.proofs.Common.{◌≡◌}
use Rattle.sc_alloc.proofs.FreeSlots.{popped, taken}
use Rattle.sc_alloc.proofs.SoonestSlot.{IsTop, late, left, soonest_is}
use Rattle.sc_alloc.proofs.slots.Slots.take_free.Goals as goal

pub returns-then-at-soonest-clause-soonest : goal.returns-then-at-soonest-clause-soonest
returns-then-at-soonest-clause-soonest c slots has =
    let ends = heap_items c.args.self.now.ends in
    let top = c.in_ok-soonest.field-0.now in
    let some : 0 < length ends = search rules in
    let first : top ≡ get_or ends 0 top = c.in_ok-soonest.ensures.lookup in
    let its : slice_get slots top.0.slot ≡ Some top.0.last =
    subst (λ (x : Reverse SlotEnd). slice_get slots x.0.slot ≡ Some x.0.last) (sym first) (has.each 0 top some) in
    let greatest : IsTop top ends =
    All-from_recursion _ ends (c.in_ok-soonest.ensures.greatest has.ordered) in
    (late slots c.args.at ends c.args.self.now.count top has greatest its c.if-at-soonest.true, has)

pub returns-clause-soonest : goal.returns-clause-soonest
returns-clause-soonest c slots has =
    let ends = heap_items c.args.self.now.ends in
    let rest = heap_items c.pop.new.self in
    let top = c.in_ok-soonest.field-0.now in
    let filled : 0 < heap_len c.args.self.now.ends = search rules in
    let some : 0 < length ends = search rules in
    let first : top ≡ get_or ends 0 top = c.in_ok-soonest.ensures.lookup in
    let its : slice_get slots top.0.slot ≡ Some top.0.last =
    subst (λ (x : Reverse SlotEnd). slice_get slots x.0.slot ≡ Some x.0.last) (sym first) (has.each 0 top some) in
    let greatest : IsTop top ends =
    All-from_recursion _ ends (c.in_ok-soonest.ensures.greatest has.ordered) in
    let moved : IsPermutation ends (top ∷ rest) =
    popped (λ x. IsPermutation ends (x ∷ rest)) c.pop.result ends rest (heap_len c.args.self.now.ends) top
    c.pop.ensures.none filled c.pop.ensures.top c.pop.ensures.permutation first c.pop.ensures.permutation in
    let ordered : IsHeap soonest_first rest =
    (popped _ c.pop.result ends rest (heap_len c.args.self.now.ends) top c.pop.ensures.none filled
    c.pop.ensures.top c.pop.ensures.permutation first c.pop.ensures.heap_order has.ordered).0 in (
      sym (soonest_is slots c.args.at ends c.args.self.now.count top has greatest its (search rules)),
      left slots ends rest c.args.self.now.count top has moved ordered its,
    )

pub returns-clause-rules : goal.returns-clause-rules
returns-clause-rules c placements slots =
    let ends = c.args.self.now.ends in
    let some : 0 < heap_len ends = search rules in
    taken placements (heap_items ends) (heap_items c.pop.new.self) c.in_ok-soonest.field-0.now c.args.self.now.count
    c.args.at slots
    (popped (λ x. IsPermutation (heap_items ends) (x ∷ heap_items c.pop.new.self)) c.pop.result (heap_items ends)
    (heap_items c.pop.new.self) (heap_len ends) c.in_ok-soonest.field-0.now c.pop.ensures.none some c.pop.ensures.top
    c.pop.ensures.permutation c.in_ok-soonest.ensures.lookup c.pop.ensures.permutation)
    (search rules)
