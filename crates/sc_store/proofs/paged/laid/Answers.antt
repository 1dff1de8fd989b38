use Rattle.sc_store.proofs.Common.{Region, ap, arith, refl, ◌+◌, ◌^◌, ◌≤◌}
use Rattle.std.proofs.lemmas.List.Elements.{All-get_or}
use Rattle.sc_store.proofs.Counts.{few_so_far, pages_more, pages_so_far}
use Rattle.sc_store.proofs.Places.{placed_grown, regions_grown, single_grown}
use Rattle.sc_store.proofs.paged.laid.Goals as goal

pub invariant_of-push : goal.invariant_of-push
invariant_of-push c = record {
  few = let pages = few_so_far c.args.regions.now c.loop-region.pages c.loop-region.region-index c.requires.apart
      c.requires.below c.loop-region.invariant.count in omega (arith, pages);
  below = All-get_or (λ (region : Region). region.start + region.bytes ≤ 2 ^ 32) c.args.regions.now
      c.loop-region.region-index _ c.loop-region-test.true c.requires.below;
}

pub overflow_mul-pages : goal.overflow_mul-pages
overflow_mul-pages c = let pages = few_so_far c.args.regions.now c.loop-region.pages c.loop-region.region-index
    c.requires.apart c.requires.below c.loop-region.invariant.count in omega (arith, pages)

pub overflow_add-pages : goal.overflow_add-pages
overflow_add-pages c = let most = pages_so_far c.args.regions.now c.loop-region.pages c.pages.result
    c.loop-region.region-index _ c.requires.apart c.requires.below c.loop-region-test.true
    c.loop-region.invariant.count c.pages.ensures in omega (arith, most)

pub loop-region-preserved : goal.loop-region-preserved
loop-region-preserved c = record {
  regions = regions_grown c.loop-region.areas.items c.push.new.self.items _ c.args.regions.now
      c.loop-region.region-index _ c.in_ok-push.ensures.items c.loop-region.invariant.regions
      c.loop-region-test.true refl;
  single = single_grown c.loop-region.areas.items c.push.new.self.items _ c.loop-region.pages
      c.in_ok-push.ensures.items c.loop-region.invariant.single c.loop-region.invariant.placed refl;
  placed = placed_grown c.loop-region.areas.items c.push.new.self.items _ c.loop-region.pages _
      c.in_ok-push.ensures.items c.loop-region.invariant.placed refl
      (ap (λ n. c.loop-region.pages + n) c.pages.ensures);
  count = pages_more c.args.regions.now c.loop-region.pages c.pages.result c.loop-region.region-index _
      c.loop-region-test.true c.loop-region.invariant.count c.pages.ensures;
}
