use Rattle.sc_machine.proofs.Blocks.{blocks_set, place_within, there_set}
use Rattle.sc_machine.proofs.zones.Zones.alloc.Goals as goal
use Rattle.sc_zone.specs.Prelude.{taken}

pub returns-clause-within : goal.returns-clause-within
returns-clause-within c = place_within c.in-Some.zone c.args.words c.alloc.result c.alloc.ensures.place

pub returns-clause-blocks : goal.returns-clause-blocks
returns-clause-blocks c = blocks_set c.self.inside.each.items c.args.self.now c.self.view_is c.args.comp c.number.result
    c.number.ensures.number c.requires c.index_mut.result.now c.index_mut.ensures.value c.in-Some.zone c.in-Some.is
    (taken c.args.words c.alloc.result) c.alloc.new.self c.alloc.ensures.spans

pub returns-clause-there : goal.returns-clause-there
returns-clause-there c = there_set c.self.inside.each.items c.args.self.now c.self.view_is c.args.comp c.number.result
    c.number.ensures.number c.requires c.index_mut.result.now c.index_mut.ensures.value c.in-Some.zone c.in-Some.is
    c.alloc.new.self
