use Rattle.sc_store.proofs.Common.{ap, arith, written, ◌∙◌}
use Rattle.sc_store.proofs.Parts.{first_stored}
use Rattle.sc_store.proofs.access.store32.Goals as goal

pub returns-else-not-write : goal.returns-else-not-write
returns-else-not-write g c =
    c.write.ensures.written (cc)
    ∙ ap (λ bs. written (g.S.Access.bytes c.args.store.now) c.args.at bs) c.to_le_bytes.ensures
    ∙ first_stored (g.S.Access.bytes c.args.store.now) c.args.at c.args.value 4 (omega arith)
