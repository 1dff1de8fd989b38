-- The gap that the block leaves joins those on both sides.
use Rattle.sc_zone.proofs.Common.{arith}
use Rattle.sc_zone.proofs.Tables.{block_fits, joins_list, joins_tables, joins_within}
use Rattle.sc_zone.proofs.zone.Zone.join.Goals as goal

pub put-requires : goal.put-requires
put-requires c =
    let fits = block_fits c.self.inside.blocks.items c.self.inside.gaps.words.items c.self.inside.gaps_before.items
    c.self.invariant.0 c.args.self.now c.self.view_is c.args.block.place c.args.block.words c.requires.block in
    omega (arith, fits.0, fits.1, c.self.invariant.1)

pub set-requires : goal.set-requires
set-requires c =
    let within = joins_within c.self.inside.blocks.items c.self.inside.gaps.words.items c.self.inside.gaps_before.items
    c.self.invariant.0 c.args.self.now c.self.view_is c.args.block.place c.args.block.words c.requires.block
    c.args.gap.place c.args.gap.words c.requires.place c.requires.words in omega (arith, within.0)

pub set-requires-2 : goal.set-requires-2
set-requires-2 c =
    let within = joins_within c.self.inside.blocks.items c.self.inside.gaps.words.items c.self.inside.gaps_before.items
    c.self.invariant.0 c.args.self.now c.self.view_is c.args.block.place c.args.block.words c.requires.block
    c.args.gap.place c.args.gap.words c.requires.place c.requires.words in omega (arith, within.1)

pub overflow_add-gap : goal.overflow_add-gap
overflow_add-gap c =
    let within = joins_within c.self.inside.blocks.items c.self.inside.gaps.words.items c.self.inside.gaps_before.items
    c.self.invariant.0 c.args.self.now c.self.view_is c.args.block.place c.args.block.words c.requires.block
    c.args.gap.place c.args.gap.words c.requires.place c.requires.words in omega (arith, within.1)

pub invariant_of-self : goal.invariant_of-self
invariant_of-self c = (
  joins_tables c.self.inside.blocks.items c.self.inside.gaps.words.items c.self.inside.gaps_before.items
      c.self.invariant.0 c.args.self.now c.self.view_is c.args.block.place c.args.block.words c.requires.block
      c.args.gap.place c.args.gap.words c.requires.place c.requires.words
      c.put.new.table.items c.set.new.self.words.items c.set-2.new.self.words.items c.put_before.new.gaps_before.items
      c.put_before-2.new.gaps_before.items c.put.ensures.numbers c.set.ensures c.set-2.ensures
      c.put_before.ensures.numbers c.put_before-2.ensures.numbers,
  omega (arith, c.self.invariant.1, c.put.ensures.capacity),
  omega (arith, c.self.invariant.2, c.put_before.ensures.capacity, c.put_before-2.ensures.capacity),
)

pub returns : goal.returns
returns c =
    joins_list c.self.inside.blocks.items c.self.inside.gaps.words.items c.self.inside.gaps_before.items
    c.self.invariant.0 c.args.self.now c.self.view_is c.args.block.place c.args.block.words c.requires.block
    c.args.gap.place c.args.gap.words c.requires.place c.requires.words c.put.new.table.items c.put.ensures.numbers
