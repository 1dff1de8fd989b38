use Rattle.sc_blocks.proofs.Common.{Err, HoldsAt, Ok, Slot, arith, block_at, free_cell, laid_out, length, subst, sym}
use Rattle.sc_blocks.proofs.Common.{◌<◌, ◌≡◌}
use Rattle.sc_core.specs.declared.cause.Cause.TheVariants.{BadFree}
use Rattle.sc_core.specs.declared.value.Cell.TheVariants.{Ptr}
use Rattle.sc_blocks.proofs.Allocating.{freed_gives, freed_keeps, lost_fails, placeless_fails}
use Rattle.sc_blocks.proofs.Storing.{none_at}
use Rattle.sc_blocks.proofs.row.Row.free.Goals as goal

pub returns-in_default-clause-value : goal.returns-in_default-clause-value
returns-in_default-clause-value c =
    let heap = c.self.inside.heap in
    let made = c.self.inside.made in
    subst (λ bs. free_cell bs (Ptr c.args.pointer) ≡ Err BadFree) c.self.view_is
    (lost_fails c.self.inside.slots.items heap made c.self.invariant.0 c.self.invariant.1 c.self.invariant.2
    c.args.pointer (omega (arith, c.if-pointer-ne0.false))
    (none_at heap c.as_slice.result.now made c.args.pointer.block c.self.invariant.1 c.as_slice.ensures
    c.in_default.ensures.found))

pub returns-then-not-free-clause-value : goal.returns-then-not-free-clause-value
returns-then-not-free-clause-value c =
    let at = c.in-Some.at in
    subst (λ bs. free_cell bs (Ptr c.args.pointer) ≡ Err BadFree) c.self.view_is
    (placeless_fails c.self.inside.slots.items c.self.inside.heap c.self.inside.made c.self.invariant.0
    c.self.invariant.1 c.self.invariant.2 c.args.pointer (omega (arith, c.if-pointer-ne0.false)) at
    (subst (λ ss. at < length ss) c.as_slice.ensures c.in-Some.ensures.within)
    (subst (λ ss. HoldsAt (λ (slot : Slot). slot.number ≡ c.args.pointer.block) ss at) c.as_slice.ensures
    c.in-Some.ensures.found) (sym c.if-not-free.ensures.there))

pub invariant_of-self-2 : goal.invariant_of-self-2
invariant_of-self-2 c =
    let at = c.in-Some.at in
    freed_keeps c.self.inside.slots.items c.self.inside.heap c.self.inside.made c.self.invariant.0 c.self.invariant.1
    c.self.invariant.2 c.args.pointer (omega (arith, c.if-pointer-ne0.false)) at
    (subst (λ ss. at < length ss) c.as_slice.ensures c.in-Some.ensures.within)
    (subst (λ ss. HoldsAt (λ (slot : Slot). slot.number ≡ c.args.pointer.block) ss at) c.as_slice.ensures
    c.in-Some.ensures.found) c.free.new.self c.if-not-free.ensures.freed

pub returns-clause-value : goal.returns-clause-value
returns-clause-value c =
    let at = c.in-Some.at in
    let slots = c.self.inside.slots.items in
    let made = c.self.inside.made in
    subst (λ bs. free_cell bs (Ptr c.args.pointer) ≡ Ok (laid_out (block_at slots c.free.new.self) made 0))
    c.self.view_is
    (freed_gives slots c.self.inside.heap made c.self.invariant.0 c.self.invariant.1 c.self.invariant.2 c.args.pointer
    (omega (arith, c.if-pointer-ne0.false)) at
    (subst (λ ss. at < length ss) c.as_slice.ensures c.in-Some.ensures.within)
    (subst (λ ss. HoldsAt (λ (slot : Slot). slot.number ≡ c.args.pointer.block) ss at) c.as_slice.ensures
    c.in-Some.ensures.found) c.free.new.self c.if-not-free.ensures.freed (sym c.if-not-free.ensures.there))
