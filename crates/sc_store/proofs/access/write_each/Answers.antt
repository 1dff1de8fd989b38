use Rattle.sc_store.proofs.Common.{[], ap, get_or, written, ◌+◌, ◌∙◌, ◌∷◌}
use Rattle.sc_store.proofs.Parts.{next_there, written_more}
use Rattle.sc_store.proofs.access.write_each.Goals as goal

pub put-requires : goal.put-requires
put-requires g c =
    next_there (g.S.Access.bytes c.args.store.now)
    (g.S.Access.bytes c.loop-k.store) c.args.at c.args.from.now c.loop-k.k
    c.loop-k.invariant c.loop-k-test.true c.requires.there

pub loop-k-preserved : goal.loop-k-preserved
loop-k-preserved g c =
    c.put.ensures
    ∙ ap (λ m. written m (c.args.at + c.loop-k.k) (get_or c.args.from.now c.loop-k.k 0 ∷ [])) c.loop-k.invariant
    ∙ written_more (g.S.Access.bytes c.args.store.now) c.args.at c.args.from.now c.loop-k.k c.loop-k-test.true
