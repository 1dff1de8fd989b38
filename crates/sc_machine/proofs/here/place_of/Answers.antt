use Rattle.sc_machine.proofs.Common.{Callee, rules}
use Rattle.std.proofs.lemmas.List.Sorted.{answers_always}
use Rattle.std.proofs.lemmas.Map.Lookups.{exact_unsigned}
use Rattle.sc_machine.proofs.here.place_of.Goals as goal

pub returns-in-Ok-clause-entry : goal.returns-in-Ok-clause-entry
returns-in-Ok-clause-entry c =
    let by_key = c.in-Ok.ensures.position (λ (callee : Callee). callee.entry)
    (answers_always _ _ _ (λ f a r g called. search rules)) in
    λ d. exact_unsigned _ _ (by_key d)
