use Rattle.sc_store.proofs.Common.{All, IsZero, regions_of, take, ◌≡◌}
use Rattle.sc_store.proofs.flat.zeroed_parts.Given as goal

abbrev pub invariant-loop-region : goal.invariant-loop-region
invariant-loop-region l = record {
  regions : regions_of l.parts.items ≡ take l.region-index l.regions;
  zero : All IsZero l.parts.items;
}
