use Rattle.sc_store.proofs.Common.{ap, not, ◌∙◌}
use Rattle.sc_store.proofs.Places.{took, is_free}
use Rattle.sc_store.proofs.cells.Cells.touch.Goals as goal

pub invariant_of-self : goal.invariant_of-self
invariant_of-self c =
    let t = took c.args.self.now.table.items c.args.self.now.pool c.take.new.self c.args.number c.take.result c.requires
    (is_free c.args.self.now.table.items c.args.number c.index.result.now c.index.ensures
    (c.is_none.ensures ∙ ap not c.if-is_none.true))
    c.args.self.now.out c.args.self.now.distinct c.args.self.now.enough c.take.ensures.none c.take.ensures.was_in
    c.take.ensures.zeros c.take.ensures.others c.take.ensures.spare in
    record { out = t.out; distinct = t.distinct; enough = t.enough }

pub returns-then-is_none-clause-same : goal.returns-then-is_none-clause-same
returns-then-is_none-clause-same c =
    let t = took c.args.self.now.table.items c.args.self.now.pool c.take.new.self c.args.number c.take.result c.requires
    (is_free c.args.self.now.table.items c.args.number c.index.result.now c.index.ensures
    (c.is_none.ensures ∙ ap not c.if-is_none.true))
    c.args.self.now.out c.args.self.now.distinct c.args.self.now.enough c.take.ensures.none c.take.ensures.was_in
    c.take.ensures.zeros c.take.ensures.others c.take.ensures.spare in
    t.same
