use Rattle.sc_machine.proofs.Common.{ap, arith, get_or, next_there, one_there, with_bytes, written_more, ◌+◌, ◌∙◌}
use Rattle.sc_machine.proofs.Start.{one_stored}
use Rattle.sc_machine.proofs.loading.fill.Goals as goal

pub store8-requires : goal.store8-requires
store8-requires g c =
    one_there (g.S.Store.bytes c.loop-k.memory) _
    (next_there (g.S.Store.bytes c.args.memory.now) (g.S.Store.bytes c.loop-k.memory) c.args.start c.args.bytes.now
    c.loop-k.k c.loop-k.invariant c.loop-k-test.true c.requires.there)

pub loop-k-preserved : goal.loop-k-preserved
loop-k-preserved g c =
    let x = get_or c.args.bytes.now c.loop-k.k 0 in
    c.store8.ensures ∙ ap (λ m. with_bytes m (c.args.start + c.loop-k.k) 1 x) c.loop-k.invariant ∙
    one_stored _ (c.args.start + c.loop-k.k) x (omega (arith, c.type_inv.bytes c.loop-k.k)) ∙
    written_more (g.S.Store.bytes c.args.memory.now) c.args.start c.args.bytes.now c.loop-k.k c.loop-k-test.true
