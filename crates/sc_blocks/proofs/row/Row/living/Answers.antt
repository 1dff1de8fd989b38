use Rattle.sc_blocks.proofs.Common.{IsOver, LivesWith, MatchOption, slice_get, subst}
use Rattle.sc_blocks.proofs.Storing.{either_has, has_in, none_at, variable_has}
use Rattle.sc_blocks.proofs.row.Row.living.Goals as goal

pub returns-in-Some : goal.returns-in-Some
returns-in-Some c =
    let slots = c.self.inside.slots.items in
    let made = c.self.inside.made in
    subst (λ bs. LivesWith (slice_get bs c.args.block) c.in-Some.cells.now) c.self.view_is
    (variable_has slots c.self.inside.heap made c.self.invariant.0 c.self.invariant.1 c.args.block c.in-Some.cells.now
    (has_in slots c.as_slice.result.now made c.args.block c.in-Some.cells.now c.self.invariant.0
    c.as_slice.ensures.value c.in-Some.ensures))

pub returns-in-None : goal.returns-in-None
returns-in-None c =
    let slots = c.self.inside.slots.items in
    let made = c.self.inside.made in
    subst (λ bs. MatchOption c.cells_in-in-None.result (IsOver (slice_get bs c.args.block))
    (λ cells. LivesWith (slice_get bs c.args.block) cells.now)) c.self.view_is
    (either_has (λ cells. cells.now) slots c.self.inside.heap c.as_slice-in-None.result.now made c.args.block
    c.cells_in-in-None.result c.self.invariant.0 c.self.invariant.1
    (none_at slots c.as_slice.result.now made c.args.block c.self.invariant.0 c.as_slice.ensures.value
    c.in-None.ensures) c.as_slice-in-None.ensures c.cells_in-in-None.ensures)
