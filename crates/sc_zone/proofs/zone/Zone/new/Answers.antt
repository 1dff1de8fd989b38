-- All is one gap.
use Rattle.sc_zone.proofs.Common.{ap, arith}
use Rattle.sc_zone.proofs.Tables.{new_tables}
use Rattle.sc_zone.specs.Tables.{blocks_from}
use Rattle.sc_zone.proofs.zone.Zone.new.Goals as goal

pub invariant_of-result : goal.invariant_of-result
invariant_of-result c = (
  new_tables c.in_ok-blocks.blocks.items c.in_ok-gaps.gaps.words.items c.set.new.self.words.items
      c.in_ok-gaps_before.gaps_before.items c.in_ok-blocks.ensures.items c.in_ok-gaps_before.ensures.items
      c.in_ok-gaps.ensures c.set.ensures,
  omega (arith, c.in_ok-blocks.ensures.exact),
  omega (arith, c.in_ok-gaps_before.ensures.exact),
)

pub returns : goal.returns
returns c = ap (blocks_from 0) c.in_ok-blocks.ensures.items
