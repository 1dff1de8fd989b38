use Rattle.sc_alloc.proofs.Common.{All, AreNumbered, ArePlaced, Interval, IsAssignment, IsPermutation, IsSparing, List}
use Rattle.sc_alloc.proofs.Common.{Placement, ap, at_first, fold, map, scan_next, sorted_by, subst, sym, ◌∙◌, ◌≡◌, ◌≤◌}
use Rattle.std.proofs.Common.{length, ◌^◌}
use Rattle.sc_alloc.proofs.Assignment.{all_ordered, are_places, is_assignment, is_sparing, moved_to, numbered}
use Rattle.sc_alloc.proofs.ByTemp.{by_temps, place_of, temp_of}
use Rattle.sc_alloc.proofs.places.assign.Goals as goal

pub scan-requires-clause-ordered : goal.scan-requires-clause-ordered
scan-requires-clause-ordered c =
    let intervals = c.args.intervals.now in
    let order = c.in_ok-order.order.items in
    let moved : IsPermutation intervals order =
    subst (λ xs. IsPermutation xs order) c.as_slice.ensures.list c.in_ok-order.ensures.same in
    subst (All (λ (x : Interval). x.first ≤ x.last)) (sym c.as_slice-2.ensures.value)
    (all_ordered intervals order c.as_slice.ensures.rules moved)

pub by_temp-requires : goal.by_temp-requires
by_temp-requires c =
    let placements = c.in_ok-placements.placements in
    subst AreNumbered (sym c.as_slice-3.ensures)
    (numbered c.args.intervals.now placements c.as_slice.ensures.rules
    (moved_to c.args.intervals.now c.as_slice.result.now c.in_ok-order.order.items c.as_slice-2.result.now placements
    c.as_slice.ensures.list c.in_ok-order.ensures.same c.as_slice-2.ensures.value c.in_ok-placements.ensures.each))

pub new-requires : goal.new-requires
new-requires c =
    let placements = c.in_ok-placements.placements in
    let places = c.in_ok-by_temp.field-0 in
    are_places c.args.intervals.now placements c.as_slice.ensures.rules
    (moved_to c.args.intervals.now c.as_slice.result.now c.in_ok-order.order.items c.as_slice-2.result.now placements
    c.as_slice.ensures.list c.in_ok-order.ensures.same c.as_slice-2.ensures.value c.in_ok-placements.ensures.each)
    places c.in_ok-placements.ensures.fair c.in_ok-placements.ensures.known
    (subst (λ (placements : List Placement). ArePlaced placements places) c.as_slice-3.ensures c.in_ok-by_temp.ensures)

pub returns-clause-assignment : goal.returns-clause-assignment
returns-clause-assignment c =
    let placements = c.in_ok-placements.placements in
    let places = c.in_ok-by_temp.field-0 in
    subst (IsAssignment c.args.intervals.now) (sym c.new.ensures)
    (is_assignment c.args.intervals.now placements c.as_slice.ensures.rules
    (moved_to c.args.intervals.now c.as_slice.result.now c.in_ok-order.order.items c.as_slice-2.result.now placements
    c.as_slice.ensures.list c.in_ok-order.ensures.same c.as_slice-2.ensures.value c.in_ok-placements.ensures.each)
    places c.in_ok-placements.ensures.fair c.in_ok-placements.ensures.known
    (subst (λ (placements : List Placement). ArePlaced placements places) c.as_slice-3.ensures c.in_ok-by_temp.ensures))

pub returns-clause-sparing : goal.returns-clause-sparing
returns-clause-sparing c =
    let placements = c.in_ok-placements.placements in
    let places = c.in_ok-by_temp.field-0 in
    subst (IsSparing c.args.intervals.now) (sym c.new.ensures)
    (is_sparing c.args.intervals.now placements c.as_slice.ensures.rules
    (moved_to c.args.intervals.now c.as_slice.result.now c.in_ok-order.order.items c.as_slice-2.result.now placements
    c.as_slice.ensures.list c.in_ok-order.ensures.same c.as_slice-2.ensures.value c.in_ok-placements.ensures.each)
    places c.in_ok-placements.ensures.fair c.in_ok-placements.ensures.known
    (subst (λ (placements : List Placement). ArePlaced placements places) c.as_slice-3.ensures c.in_ok-by_temp.ensures))

pub returns-clause-places : goal.returns-clause-places
returns-clause-places c =
    let placements = c.in_ok-placements.placements in
    let places = c.in_ok-by_temp.field-0 in
    let placed : ArePlaced placements places =
    subst (λ (placements : List Placement). ArePlaced placements places) c.as_slice-3.ensures c.in_ok-by_temp.ensures in
    let sorted : c.as_slice-2.result.now ≡ sorted_by (λ (x : Interval). x.first) c.args.intervals.now =
    c.as_slice-2.ensures.value ∙ c.in_ok-order.ensures.sorted ∙
    ap (sorted_by (λ (x : Interval). x.first)) c.as_slice.ensures.list in
    let scanned : placements ≡ (fold scan_next at_first
    (sorted_by (λ (x : Interval). x.first) c.args.intervals.now)).placements =
    c.in_ok-placements.ensures.places ∙ ap (λ order. (fold scan_next at_first order).placements) sorted in
    c.new.ensures ∙
    by_temps c.args.intervals.now placements c.as_slice.ensures.rules
    (moved_to c.args.intervals.now c.as_slice.result.now c.in_ok-order.order.items c.as_slice-2.result.now placements
    c.as_slice.ensures.list c.in_ok-order.ensures.same c.as_slice-2.ensures.value c.in_ok-placements.ensures.each)
    places placed ∙
    ap (λ placements. map place_of (sorted_by temp_of placements)) scanned

pub scan-requires-clause-few : goal.scan-requires-clause-few
scan-requires-clause-few c =
    subst (λ (xs : List Interval). length xs ≤ 2 ^ 32) (sym c.as_slice-2.ensures.value) c.in_ok-order.ensures.few
