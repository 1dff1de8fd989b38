use Rattle.sc_store.proofs.Common.{ArePlaced, AreSingle, pages_of, regions_in, sum_by, take, ◌≡◌}
use Rattle.sc_store.proofs.paged.laid.Given as goal

abbrev pub invariant-loop-region : goal.invariant-loop-region
invariant-loop-region l = record {
  regions : regions_in l.areas.items ≡ take l.region-index l.regions;
  single : AreSingle l.areas.items;
  placed : ArePlaced l.areas.items l.pages;
  count : l.pages ≡ sum_by pages_of (take l.region-index l.regions);
}
