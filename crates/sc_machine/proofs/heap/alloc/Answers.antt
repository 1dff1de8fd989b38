use Rattle.sc_machine.proofs.Blocks.{zone_there}
use Rattle.sc_machine.proofs.heap.alloc.Goals as goal

pub alloc-place-requires : goal.alloc-place-requires
alloc-place-requires c = zone_there c.args.here.now.image c.args.here.now.comp c.comp.result c.args.hart.now.zones.there
    c.requires.ready.sound.zones c.comp.ensures c.requires.heap
