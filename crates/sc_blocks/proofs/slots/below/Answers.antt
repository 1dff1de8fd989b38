use Rattle.sc_blocks.proofs.Common.{Slot, answers_always, rules}
use Rattle.sc_blocks.proofs.Living.{parted_at}
use Rattle.sc_blocks.proofs.Removing.{below_met, below_missed}
use Rattle.std.proofs.lemmas.Map.Lookups.{exact_unsigned}
use Rattle.sc_blocks.proofs.slots.below.Goals as goal

pub returns-in-Ok-clause-count : goal.returns-in-Ok-clause-count
returns-in-Ok-clause-count c =
    let by_key = c.in-Ok.ensures.position (λ (slot : Slot). slot.number)
    (answers_always _ _ _ (λ f a r g called. search rules)) in
    λ from made up. below_met c.args.slots.now from made c.args.number c.in-Ok.place up c.in-Ok.ensures.bound
    (λ d. exact_unsigned _ _ (by_key d))

pub returns-in-Err-clause-count : goal.returns-in-Err-clause-count
returns-in-Err-clause-count c =
    let by_key = c.in-Err.ensures.position (λ (slot : Slot). slot.number)
    (answers_always _ _ _ (λ f a r g called. search rules)) in
    λ from made up. below_missed c.args.slots.now from made c.args.number c.in-Err.place up c.in-Err.ensures.bound
    (parted_at c.args.slots.now from made c.args.number c.in-Err.place up by_key)
