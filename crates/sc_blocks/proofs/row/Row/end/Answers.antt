use Rattle.sc_blocks.proofs.Common.{ap, arith, cleared, ◌∙◌, ◌≤◌}
use Rattle.sc_blocks.proofs.Removing.{below_order, counted, kept_without, left_without, row_without}
use Rattle.sc_blocks.proofs.row.Row.end.Goals as goal

pub remove-requires-clause-order : goal.remove-requires-clause-order
remove-requires-clause-order c =
    let slots = c.self.inside.slots.items in
    let made = c.self.inside.made in
    let end = c.saturating_add-end.result in
    let order : c.args.first ≤ end = omega (arith, c.saturating_add-end.ensures) in
    omega (
      arith,
      below_order slots c.args.first end order,
      counted slots c.as_slice.result.now 0 made c.args.first c.lower-from.result c.self.invariant.0
          c.as_slice.ensures.value c.lower-from.ensures.count,
      counted slots c.as_slice-2.result.now 0 made end c.lower-to.result c.self.invariant.0 c.as_slice-2.ensures.value
          c.lower-to.ensures.count,
    )

pub invariant_of-self : goal.invariant_of-self
invariant_of-self c =
    kept_without c.self.inside.slots.items c.remove.new.slots.items c.self.inside.heap c.end.new.self c.self.inside.made
    c.args.first c.saturating_add-end.result c.self.invariant.0 c.self.invariant.1 c.self.invariant.2
    (left_without c.self.inside.slots.items c.remove.new.slots.items 0 c.self.inside.made c.lower-from.result
    c.lower-to.result c.args.first c.saturating_add-end.result c.self.invariant.0
    (omega (arith, c.saturating_add-end.ensures))
    (counted c.self.inside.slots.items c.as_slice.result.now 0 c.self.inside.made c.args.first c.lower-from.result
    c.self.invariant.0 c.as_slice.ensures.value c.lower-from.ensures.count)
    (counted c.self.inside.slots.items c.as_slice-2.result.now 0 c.self.inside.made c.saturating_add-end.result
    c.lower-to.result c.self.invariant.0 c.as_slice-2.ensures.value c.lower-to.ensures.count) c.remove.ensures)
    (c.end.ensures 0 c.self.inside.made c.self.invariant.1)

pub returns : goal.returns
returns c =
    row_without c.self.inside.slots.items c.remove.new.slots.items c.self.inside.heap c.end.new.self c.self.inside.made
    c.args.first c.args.count c.saturating_add-end.result
    (left_without c.self.inside.slots.items c.remove.new.slots.items 0 c.self.inside.made c.lower-from.result
    c.lower-to.result c.args.first c.saturating_add-end.result c.self.invariant.0
    (omega (arith, c.saturating_add-end.ensures))
    (counted c.self.inside.slots.items c.as_slice.result.now 0 c.self.inside.made c.args.first c.lower-from.result
    c.self.invariant.0 c.as_slice.ensures.value c.lower-from.ensures.count)
    (counted c.self.inside.slots.items c.as_slice-2.result.now 0 c.self.inside.made c.saturating_add-end.result
    c.lower-to.result c.self.invariant.0 c.as_slice-2.ensures.value c.lower-to.ensures.count) c.remove.ensures)
    (c.end.ensures 0 c.self.inside.made c.self.invariant.1)
    (λ n below inside. omega (arith, below, inside, c.saturating_add-end.ensures))
    (omega (arith, c.saturating_add-end.ensures)) ∙ ap (cleared c.args.first c.args.count) c.self.view_is
