use Rattle.sc_blocks.proofs.Common.{Some, ap, length, slice_get, subst, sym, ◌<◌, ◌∙◌, ◌≡◌}
use Rattle.sc_blocks.proofs.Heaps.{IsZoneOf, zone_set}
use Rattle.sc_blocks.proofs.Storing.{put_slot}
use Rattle.sc_blocks.specs.Slots.{zone_spans}
use Rattle.std.proofs.lemmas.Option.{slice_get-get_or}
use Rattle.sc_blocks.proofs.heap.Heap.put.Goals as goal

pub invariant_of-self : goal.invariant_of-self
invariant_of-self c =
    let slots = c.self.inside.slots.items in
    let spans = zone_spans c.self.inside.zone in
    let zone : IsZoneOf spans slots = record { same = c.self.invariant.0; laid = c.self.invariant.1 } in
    let within : c.args.at < length slots = subst (λ ss. c.args.at < length ss) (sym c.self.view_is) c.requires in
    let now = zone_set spans slots c.args.at c.index_mut.result.now c.put.new.slot zone within c.index_mut.ensures.value
    c.put.ensures.place c.put.ensures.long in
    (now.same, now.laid)

pub returns-clause-value : goal.returns-clause-value
returns-clause-value c =
    let slots = c.self.inside.slots.items in
    let within : c.args.at < length slots = subst (λ ss. c.args.at < length ss) (sym c.self.view_is) c.requires in
    let there : slice_get slots c.args.at ≡ Some c.index_mut.result.now =
    slice_get-get_or slots c.args.at c.index_mut.result.now within ∙ ap Some (sym c.index_mut.ensures.value) in
    rw (← c.self.view_is) (put_slot slots c.args.at c.args.index c.args.cell c.index_mut.result.now c.put.new.slot there
    c.put.ensures.number c.put.ensures.place c.put.result c.put.ensures.value)
