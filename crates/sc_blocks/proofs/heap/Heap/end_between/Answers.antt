use Rattle.sc_blocks.proofs.Common.{Slot, List, arith, count_below, subst, sym, ◌∙◌, ◌≡◌, ◌≤◌}
use Rattle.sc_blocks.proofs.Removing.{below_order, counted, left_without}
use Rattle.sc_blocks.proofs.heap.Heap.end_between.Goals as goal

pub returns : goal.returns
returns c = λ from made up.
    let slots = c.args.self.now in
    let low = counted slots c.as_slice.result.now from made c.args.first c.below-from.result up
    (c.as_slice.ensures.value ∙ c.self.view_is) c.below-from.ensures.count in
    let high = counted slots c.as_slice-2.result.now from made c.args.end c.below-to.result up
    (c.as_slice-2.ensures.value ∙ c.self.view_is) c.below-to.ensures.count in
    let order : c.below-from.result ≤ c.below-to.result =
    omega (arith, low, high, below_order slots c.args.first c.args.end c.requires) in
    left_without slots c.take_out_range.new.self from made c.below-from.result c.below-to.result c.args.first c.args.end
    up c.requires low high (c.take_out_range.ensures order)
