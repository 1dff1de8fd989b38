use Rattle.sc_alloc.proofs.Common.{Placement, Some, length, slice_get, ℕ, ◌<◌, ◌≡◌}
use Rattle.sc_alloc.proofs.places.by_temp.Given as goal

abbrev pub invariant-loop-one : goal.invariant-loop-one
invariant-loop-one l = record {
  each : length l.places ≡ length l.placements;
  placed : (i : ℕ) (g : Placement) → i < l.one-index → slice_get l.placements i ≡ Some g →
      slice_get l.places g.interval.temp ≡ Some g.place;
}
