use Rattle.sc_store.proofs.Common.{AreApart, HoldsBytes, subst, sym}
use Rattle.sc_store.proofs.Parts.{zeros_of}
use Rattle.sc_store.proofs.Words.{zeros_hold}
use Rattle.sc_store.proofs.flat.FlatStoreStore.zeroed.Goals as goal

pub invariant_of-result : goal.invariant_of-result
invariant_of-result c = record {
  apart = subst AreApart (sym c.in_ok-parts.ensures.regions) c.requires.apart;
  holds = subst HoldsBytes (sym (zeros_of c.in_ok-parts.parts.items c.args.regions.now c.in_ok-parts.ensures.zero
      c.in_ok-parts.ensures.regions))
      (zeros_hold c.args.regions.now c.requires.below);
}

pub returns : goal.returns
returns c = zeros_of c.in_ok-parts.parts.items c.args.regions.now c.in_ok-parts.ensures.zero
    c.in_ok-parts.ensures.regions
