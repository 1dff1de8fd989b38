use Rattle.sc_tags.proofs.Common.{ap, is_some}
use Rattle.sc_tags.proofs.machine.TagMachine.load.Goals as goal

pub invariant_of-result : goal.invariant_of-result
invariant_of-result g c = record {
  room = c.in-Ok-start_hart.ensures.room;
  sound = rw c.in-Ok-new.ensures.program c.in-Ok-start_hart.ensures.sound;
  owned = rw c.in-Ok-new.ensures.program (λ a. ap (λ m. is_some (m a)) c.in-Ok-start.ensures);
}
