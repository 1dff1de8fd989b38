use Rattle.sc_blocks.proofs.Common.{length, refl, subst, sym, ◌<◌}
use Rattle.sc_blocks.proofs.Heaps.{IsZoneOf, zone_less, zone_same}
use Rattle.sc_blocks.specs.Slots.{zone_spans}
use Rattle.sc_blocks.proofs.heap.Heap.take_out.Goals as goal

pub invariant_of-self : goal.invariant_of-self
invariant_of-self c =
    let slots = c.self.inside.slots.items in
    let spans = zone_spans c.self.inside.zone in
    let zone : IsZoneOf spans slots = record { same = c.self.invariant.0; laid = c.self.invariant.1 } in
    let within : c.args.at < length slots = subst (λ ss. c.args.at < length ss) (sym c.self.view_is) c.requires in
    let now = zone_less spans (zone_spans c.give_back.new.zone) slots c.remove-slot.new.self.items c.args.at
    c.remove-slot.result zone within c.remove-slot.ensures.value c.remove-slot.ensures.items c.in-Some.place
    c.in-Some.is c.give_back.ensures in
    (now.same, now.laid)

pub invariant_of-self-in_default : goal.invariant_of-self-in_default
invariant_of-self-in_default c =
    let slots = c.self.inside.slots.items in
    let spans = zone_spans c.self.inside.zone in
    let zone : IsZoneOf spans slots = record { same = c.self.invariant.0; laid = c.self.invariant.1 } in
    let within : c.args.at < length slots = subst (λ ss. c.args.at < length ss) (sym c.self.view_is) c.requires in
    let now = zone_same spans spans slots c.remove-slot.new.self.items c.args.at c.remove-slot.result zone within
    c.remove-slot.ensures.value c.remove-slot.ensures.items c.in_default.is refl in
    (now.same, now.laid)
