use Rattle.sc_store.proofs.Common.{AreApart, ArePlaced, HoldsBytes, cell, subst, sym}
use Rattle.sc_store.proofs.Places.{focus_empty, zeros_placed}
use Rattle.sc_store.proofs.Words.{zeros_hold}
use Rattle.sc_store.proofs.paged.PagedStoreStore.zeroed.Goals as goal

pub invariant_of-result : goal.invariant_of-result
invariant_of-result c = record {
  apart = subst AreApart (sym c.in_ok-areas.ensures.regions) c.requires.apart;
  single = c.in_ok-areas.ensures.single;
  focused = focus_empty c.empty.result c.in_ok-areas.areas.items c.empty.ensures;
  followed = focus_empty c.empty-2.result c.in_ok-areas.areas.items c.empty-2.ensures;
  placed = subst (λ n. ArePlaced c.in_ok-areas.areas.items n) (sym c.in_ok-cells.ensures.length)
      c.in_ok-areas.ensures.placed;
  holds = subst HoldsBytes (sym (zeros_placed c.in_ok-areas.areas.items c.args.regions.now
      (cell c.in_ok-cells.cells.table.items c.in_ok-cells.cells.pool) c.in_ok-areas.ensures.regions
      c.in_ok-cells.ensures.zero))
      (zeros_hold c.args.regions.now c.requires.below);
}

pub returns : goal.returns
returns c = zeros_placed c.in_ok-areas.areas.items c.args.regions.now
    (cell c.in_ok-cells.cells.table.items c.in_ok-cells.cells.pool) c.in_ok-areas.ensures.regions
    c.in_ok-cells.ensures.zero
