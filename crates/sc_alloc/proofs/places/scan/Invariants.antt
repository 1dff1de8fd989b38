use Rattle.sc_alloc.proofs.Common.{IsAt, IsScan, Placement, at_first, fold, map, scan_next, take, ◌≡◌}
use Rattle.sc_alloc.proofs.places.scan.Given as goal

abbrev pub invariant-loop-interval : goal.invariant-loop-interval
invariant-loop-interval l = record {
  scan : IsScan l.scan;
  placements : map (λ (g : Placement). g.interval) l.scan.placements ≡ take l.interval-index l.order;
  at : IsAt (fold scan_next at_first (take l.interval-index l.order)) l.scan;
}
