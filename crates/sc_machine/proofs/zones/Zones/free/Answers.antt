use Rattle.sc_machine.proofs.Common.{sym, ◌∙◌}
use Rattle.sc_machine.proofs.Blocks.{blocks_set, none_given, nothing_set, there_set}
use Rattle.sc_machine.proofs.zones.Zones.free.Goals as goal
use Rattle.sc_zone.specs.Prelude.{without_span}

pub returns-clause-blocks : goal.returns-clause-blocks
returns-clause-blocks c = blocks_set c.self.inside.each.items c.args.self.now c.self.view_is c.args.comp c.number.result
    c.number.ensures.number c.requires c.index_mut.result.now c.index_mut.ensures.value c.in-Some.zone c.in-Some.is
    (without_span c.args.place) c.free.new.self c.free.ensures.spans

pub returns-clause-there : goal.returns-clause-there
returns-clause-there c = there_set c.self.inside.each.items c.args.self.now c.self.view_is c.args.comp c.number.result
    c.number.ensures.number c.requires c.index_mut.result.now c.index_mut.ensures.value c.in-Some.zone c.in-Some.is
    c.free.new.self

pub returns-clause-stays : goal.returns-clause-stays
returns-clause-stays c none = nothing_set c.self.inside.each.items c.args.self.now c.self.view_is c.args.comp
    c.number.result c.number.ensures.number c.requires c.index_mut.result.now c.index_mut.ensures.value c.in-Some.zone
    c.in-Some.is c.free.new.self (c.free.ensures.spans ∙ none_given c.in-Some.zone c.args.place
    (sym c.free.ensures.there ∙ none))
