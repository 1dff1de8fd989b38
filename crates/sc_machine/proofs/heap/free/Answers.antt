use Rattle.sc_machine.proofs.Common.{state_in, ◌∙◌}
use Rattle.sc_machine.proofs.Blocks.{free_outside, zone_there}
use Rattle.sc_machine.proofs.heap.free.Goals as goal

pub returns-in_default-clause-outcome : goal.returns-in_default-clause-outcome
returns-in_default-clause-outcome c memory =
    free_outside (state_in memory c.args.hart.now) c.comp.result _ (c.comp.ensures ∙ c.requires.ready.here)
    c.if-address-eq0.false c.in_default.ensures.none

pub free-requires : goal.free-requires
free-requires c = zone_there c.args.here.now.image c.args.here.now.comp c.comp-2.result c.args.hart.now.zones.there
    c.requires.ready.sound.zones c.comp-2.ensures c.requires.heap
