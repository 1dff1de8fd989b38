use Rattle.sc_blocks.proofs.Common.{count_below, length, ◌≤◌}
use Rattle.sc_blocks.proofs.slots.lower.Given as goal

abbrev pub invariant-loop-count : goal.invariant-loop-count
invariant-loop-count l = (l.count ≤ length l.slots) × (count_below l.number l.slots ≤ l.count)

abbrev pub decreases-loop-count : goal.decreases-loop-count
decreases-loop-count l = l.count
