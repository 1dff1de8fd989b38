use Rattle.sc_blocks.proofs.Common.{length, remove_range, ◌-◌, ◌≡◌, ◌≤◌}
use Rattle.sc_blocks.proofs.heap.Heap.take_out_range.Given as goal

abbrev pub invariant-loop-last : goal.invariant-loop-last
invariant-loop-last l = (l.last ≤ length l.self) × (l.from ≤ l.to → l.from ≤ l.last) ×
    (l.from ≤ l.to → remove_range l.self l.from l.last ≡ remove_range l.fn.self l.from l.to)

abbrev pub decreases-loop-last : goal.decreases-loop-last
decreases-loop-last l = l.last - l.from
