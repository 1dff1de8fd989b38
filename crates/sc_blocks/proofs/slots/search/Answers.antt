use Rattle.sc_blocks.proofs.Common.{Slot, answers_always, rules}
use Rattle.sc_blocks.proofs.Living.{between}
use Rattle.std.proofs.lemmas.Map.Lookups.{exact_unsigned}
use Rattle.sc_blocks.proofs.slots.search.Goals as goal

pub returns-in-Ok-clause-found : goal.returns-in-Ok-clause-found
returns-in-Ok-clause-found c =
    let by_key = c.in-Ok.ensures.position (λ (slot : Slot). slot.number)
    (answers_always _ _ _ (λ f a r g called. search rules)) in
    λ d. exact_unsigned _ _ (by_key d)

pub returns-in-Err-clause-found : goal.returns-in-Err-clause-found
returns-in-Err-clause-found c =
    let by_key = c.in-Err.ensures.position (λ (slot : Slot). slot.number)
    (answers_always _ _ _ (λ f a r g called. search rules)) in
    λ from made up. between c.args.slots.now from made c.args.number c.in-Err.field-0 up by_key
