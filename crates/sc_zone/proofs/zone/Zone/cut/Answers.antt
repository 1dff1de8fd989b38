-- What is left of the gap is a gap.
use Rattle.sc_zone.proofs.Common.{arith}
use Rattle.sc_zone.proofs.Tables.{cuts_list, cuts_tables, cuts_within}
use Rattle.sc_zone.proofs.zone.Zone.cut.Goals as goal

pub put-requires : goal.put-requires
put-requires c =
    let within = cuts_within c.self.inside.blocks.items c.self.inside.gaps.words.items c.self.inside.gaps_before.items
    c.self.invariant.0 c.args.self.now c.self.view_is c.args.gap.place c.args.words c.args.gap.words
    c.requires.some c.requires.fits c.requires.gap in
    omega (arith, within, c.self.invariant.1, c.requires.some, c.requires.fits)

pub set-requires : goal.set-requires
set-requires c =
    let within = cuts_within c.self.inside.blocks.items c.self.inside.gaps.words.items c.self.inside.gaps_before.items
    c.self.invariant.0 c.args.self.now c.self.view_is c.args.gap.place c.args.words c.args.gap.words
    c.requires.some c.requires.fits c.requires.gap in omega (arith, within)

pub set-requires-2 : goal.set-requires-2
set-requires-2 c =
    let within = cuts_within c.self.inside.blocks.items c.self.inside.gaps.words.items c.self.inside.gaps_before.items
    c.self.invariant.0 c.args.self.now c.self.view_is c.args.gap.place c.args.words c.args.gap.words
    c.requires.some c.requires.fits c.requires.gap in omega (arith, within, c.requires.fits)

pub invariant_of-self : goal.invariant_of-self
invariant_of-self c = (
  cuts_tables c.self.inside.blocks.items c.self.inside.gaps.words.items c.self.inside.gaps_before.items
      c.self.invariant.0 c.args.self.now c.self.view_is c.args.gap.place c.args.words c.args.gap.words
      c.requires.some c.requires.fits c.requires.gap
      c.put.new.table.items c.set.new.self.words.items c.set-2.new.self.words.items c.put_before.new.gaps_before.items
      c.put.ensures.numbers c.set.ensures c.set-2.ensures c.put_before.ensures.numbers,
  omega (arith, c.self.invariant.1, c.put.ensures.capacity),
  omega (arith, c.self.invariant.2, c.put_before.ensures.capacity),
)

pub returns : goal.returns
returns c =
    cuts_list c.self.inside.blocks.items c.self.inside.gaps.words.items c.self.inside.gaps_before.items
    c.self.invariant.0 c.args.self.now c.self.view_is c.args.gap.place c.args.words c.args.gap.words
    c.requires.some c.requires.fits c.requires.gap c.put.new.table.items c.put.ensures.numbers
