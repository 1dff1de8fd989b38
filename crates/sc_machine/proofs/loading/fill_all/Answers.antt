use Rattle.sc_machine.proofs.Common.{refl}
use Rattle.sc_machine.proofs.Start.{place_there, next_filled}
use Rattle.sc_machine.proofs.loading.fill_all.Goals as goal

pub fill-requires-clause-there : goal.fill-requires-clause-there
fill-requires-clause-there g c =
    place_there c.args.comps.now c.loop-number.number c.index-comps-number.result c.loop-number-test.true
    c.index-comps-number.is (g.S.Store.bytes c.args.memory.now)
    (g.S.Store.bytes c.loop-number.memory) c.stack_top.result c.as_bytes.result.now c.loop-number.invariant
    (rw (c.stack_top.ensures, c.comp_id.ensures) refl)
    c.as_bytes.ensures c.requires.zeros

pub loop-number-preserved : goal.loop-number-preserved
loop-number-preserved g c =
    next_filled c.args.comps.now c.loop-number.number c.index-comps-number.result c.loop-number-test.true
    c.index-comps-number.is (g.S.Store.bytes c.args.memory.now)
    (g.S.Store.bytes c.loop-number.memory) c.stack_top.result c.as_bytes.result.now c.loop-number.invariant
    (rw (c.stack_top.ensures, c.comp_id.ensures) refl)
    c.as_bytes.ensures (g.S.Store.bytes c.fill.new.memory) c.fill.ensures
