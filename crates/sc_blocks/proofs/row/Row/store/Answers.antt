use Rattle.sc_blocks.proofs.Common.{HoldsAt, IsOver, Ok, Slot, ap, bind, block_at, get_or}
use Rattle.sc_blocks.proofs.Common.{laid_out}
use Rattle.sc_blocks.proofs.Common.{length, put_in, refl, slice_get, slice_set, subst, ◌<◌, ◌∙◌, ◌≡◌}
use Rattle.sc_blocks.proofs.Storing.{allocated_stored, apart_after, lost_is_over, none_at, over_dangles, rising_after}
use Rattle.sc_blocks.proofs.Storing.{row_after, slot_at, stored, stored_keeps, variable_lives}
use Rattle.sc_blocks.proofs.row.Row.store.Goals as goal

pub invariant_of-self : goal.invariant_of-self
invariant_of-self c =
    let slots = c.self.inside.slots.items in
    let made = c.self.inside.made in
    let at = c.in-Some.at in
    let old = c.index_mut.result.now in
    let within = subst (λ ss. at < length ss) c.as_slice.ensures.value c.in-Some.ensures.within in (
      rising_after slots made at old.number old c.put.new.slot c.self.invariant.0 within c.index_mut.ensures.value refl
          c.put.ensures.number,
      c.self.invariant.1,
      apart_after slots made at old.number old c.put.new.slot c.self.invariant.0 within c.index_mut.ensures.value refl
          c.put.ensures.number c.self.inside.heap c.self.invariant.2,
    )

pub returns-in-Some-clause-value : goal.returns-in-Some-clause-value
returns-in-Some-clause-value c =
    let slots = c.self.inside.slots.items in
    let heap = c.self.inside.heap in
    let seen = c.as_slice.result.now in
    let made = c.self.inside.made in
    let old = c.index_mut.result.now in
    let p = c.args.place in
    let at = c.in-Some.at in
    let number : old.number ≡ p.block =
    ap (λ s. s.number) c.index_mut.ensures.value ∙
    subst (λ ss. (get_or ss at old).number ≡ p.block) c.as_slice.ensures.value (c.in-Some.ensures.found old) in
    let found = variable_lives slots heap made c.self.invariant.0 c.self.invariant.1 p.block old
    (slot_at slots seen made at p.block old c.self.invariant.0 c.as_slice.ensures.value c.in-Some.ensures.within
    c.in-Some.ensures.found c.index_mut.ensures.value) in
    let within = subst (λ ss. at < length ss) c.as_slice.ensures.value c.in-Some.ensures.within in
    rw (← c.self.view_is) (stored (laid_out (block_at slots heap) made 0) _ p c.args.cell old.cells
    c.put.new.slot.cells found (row_after slots made at p.block old c.put.new.slot c.self.invariant.0 within
    c.index_mut.ensures.value number c.put.ensures.number heap) c.put.result c.put.ensures.value)

pub invariant_of-self-in-Some-place_of : goal.invariant_of-self-in-Some-place_of
invariant_of-self-in-Some-place_of c =
    let slots = c.self.inside.slots.items in
    let made = c.self.inside.made in
    let at = c.in-Some-place_of.at in
    let p = c.args.place in
    stored_keeps slots c.self.inside.heap made at p c.args.cell c.self.invariant.0 c.self.invariant.1
    (none_at slots c.as_slice.result.now made p.block c.self.invariant.0 c.as_slice.ensures.value
    c.in_default.ensures.found)
    (subst (λ ss. at < length ss) c.as_slice-2.ensures c.in-Some-place_of.ensures.within)
    (subst (λ ss. HoldsAt (λ (slot : Slot). slot.number ≡ p.block) ss at) c.as_slice-2.ensures
    c.in-Some-place_of.ensures.found) c.put-in-Some-place_of.new.self c.put-in-Some-place_of.result c.self.invariant.2
    c.put-in-Some-place_of.ensures.value c.put-in-Some-place_of.ensures.err

pub returns-in-Some-place_of-clause-value : goal.returns-in-Some-place_of-clause-value
returns-in-Some-place_of-clause-value c =
    let slots = c.self.inside.slots.items in
    let made = c.self.inside.made in
    let at = c.in-Some-place_of.at in
    let p = c.args.place in
    rw (← c.self.view_is) (allocated_stored slots c.self.inside.heap made at p c.args.cell c.self.invariant.0
    c.self.invariant.1
    (none_at slots c.as_slice.result.now made p.block c.self.invariant.0 c.as_slice.ensures.value
    c.in_default.ensures.found)
    (subst (λ ss. at < length ss) c.as_slice-2.ensures c.in-Some-place_of.ensures.within)
    (subst (λ ss. HoldsAt (λ (slot : Slot). slot.number ≡ p.block) ss at) c.as_slice-2.ensures
    c.in-Some-place_of.ensures.found) c.put-in-Some-place_of.new.self c.put-in-Some-place_of.result
    c.put-in-Some-place_of.ensures.value)

pub returns-in-None-clause-value : goal.returns-in-None-clause-value
returns-in-None-clause-value c =
    let bs = c.args.self.now in
    let p = c.args.place in
    let slots = c.self.inside.slots.items in
    let heap = c.self.inside.heap in
    let made = c.self.inside.made in
    let over = lost_is_over slots heap made c.self.invariant.0 c.self.invariant.1 p.block
    (none_at slots c.as_slice.result.now made p.block c.self.invariant.0 c.as_slice.ensures.value
    c.in_default.ensures.found)
    (none_at heap c.as_slice-2.result.now made p.block c.self.invariant.1 c.as_slice-2.ensures
    c.in-None.ensures.found) in
    ap (λ q. bind q (λ block. bind (put_in block.cells p.index c.args.cell)
    (λ cells. Ok (slice_set bs p.block (record block { cells = cells })))))
    (over_dangles (slice_get bs p.block) (subst (λ bs. IsOver (slice_get bs p.block)) c.self.view_is over))
