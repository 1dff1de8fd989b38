use Rattle.sc_frame.proofs.Common.{map, range_with_len, ◌*◌, ◌+◌, ◌≡◌}
use Rattle.sc_frame.proofs.frame.lay_slots.Given as goal

abbrev pub invariant-loop-slot : goal.invariant-loop-slot
invariant-loop-slot l = l.slots ≡ map (λ slot. 4 + 4 * slot) (range_with_len 0 l.slot)
