use Rattle.sc_blocks.proofs.Common.{Some, ap, arith, sym, ◌+◌, ◌∙◌, ◌≡◌, ◌≤◌}
use Rattle.sc_blocks.proofs.Heaps.{IsZoneOf, zone_back, zone_more}
use Rattle.sc_blocks.specs.Slots.{zone_spans}
use Rattle.sc_zone.proofs.Places.{least_is_within}
use Rattle.sc_zone.specs.Prelude.{taken, without_span, zone_words}
use Rattle.sc_blocks.proofs.heap.Heap.allocate.Goals as goal

pub overflow_cast-words : goal.overflow_cast-words
overflow_cast-words c =
    let within : c.in-Some.place + c.args.words ≤ zone_words =
    least_is_within (zone_spans c.self.inside.zone) c.args.words c.in-Some.place
    (sym c.in_ok-place.ensures.place ∙ c.in-Some.is) in
    omega (arith, within)

pub invariant_of-self-in-Ok : goal.invariant_of-self-in-Ok
invariant_of-self-in-Ok c =
    let zone : IsZoneOf (zone_spans c.self.inside.zone) c.self.inside.slots.items =
    record { same = c.self.invariant.0; laid = c.self.invariant.1 } in
    let now = zone_more (zone_spans c.self.inside.zone) (zone_spans c.take_words.new.zone) c.self.inside.slots.items
    c.push_blank.new.slots.items c.args.number c.args.words c.in-Some.place zone
    (sym c.in_ok-place.ensures.place ∙ c.in-Some.is)
    (c.in_ok-place.ensures.spans ∙ ap (λ o. taken c.args.words o (zone_spans c.self.inside.zone)) c.in-Some.is)
    c.in-Ok.ensures.ok in
    (now.same, now.laid)

pub invariant_of-self-in-Err : goal.invariant_of-self-in-Err
invariant_of-self-in-Err c =
    let zone : IsZoneOf (zone_spans c.self.inside.zone) c.self.inside.slots.items =
    record { same = c.self.invariant.0; laid = c.self.invariant.1 } in
    let now = zone_back (zone_spans c.self.inside.zone) (zone_spans c.give_back.new.zone) c.self.inside.slots.items
    c.push_blank.new.slots.items c.args.words c.in-Some.place zone
    (sym c.in_ok-place.ensures.place ∙ c.in-Some.is)
    (c.give_back.ensures ∙ ap (without_span c.in-Some.place) (c.in_ok-place.ensures.spans ∙
    ap (λ o. taken c.args.words o (zone_spans c.self.inside.zone)) c.in-Some.is)) c.in-Err.ensures.err in
    (now.same, now.laid)
