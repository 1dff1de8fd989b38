use Rattle.sc_blocks.proofs.Common.{LivesWith, slice_get, subst}
use Rattle.sc_blocks.proofs.Storing.{has_in, variable_has}
use Rattle.sc_blocks.proofs.row.Row.variable.Goals as goal

pub returns-in-Some : goal.returns-in-Some
returns-in-Some c =
    let slots = c.self.inside.slots.items in
    let made = c.self.inside.made in
    subst (λ bs. LivesWith (slice_get bs c.args.block) c.in-Some.cells.now) c.self.view_is
    (variable_has slots c.self.inside.heap made c.self.invariant.0 c.self.invariant.1 c.args.block c.in-Some.cells.now
    (has_in slots c.as_slice.result.now made c.args.block c.in-Some.cells.now c.self.invariant.0
    c.as_slice.ensures.value c.in-Some.ensures))
