use Rattle.sc_frame.proofs.Common.{arith, map-range_with_len_more, ◌*◌, ◌+◌}
use Rattle.std.proofs.lemmas.Grind.{common_steps}
use Rattle.sc_frame.proofs.frame.lay_slots.Goals as goal

pub loop-slot-preserved : goal.loop-slot-preserved
loop-slot-preserved c =
    grind (
      arith,
      common_steps,
      map-range_with_len_more (λ slot. 4 + 4 * slot) 0 c.loop-slot.slot c.loop-slot.slot (omega arith),
    )
