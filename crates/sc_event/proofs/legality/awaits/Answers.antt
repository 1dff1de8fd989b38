use Rattle.sc_event.proofs.Common.{IfSome, StandsBy, length, subst, sym, ◌<◌, ◌∙◌}
use Rattle.sc_event.proofs.OpenCalls.{awaited}
use Rattle.sc_event.proofs.legality.awaits.Goals as goal

pub returns-in-Some : goal.returns-in-Some
returns-in-Some c = λ at by.
    let main = c.args.main in
    let events = c.args.events.now in
    let within = subst (λ p. IfSome p (λ call. call < length events)) c.in-Some.is c.requires in
    let of_call = subst (λ p. StandsBy main events p at) c.in-Some.is by in
    c.eq.ensures ∙ awaited main events c.in-Some.call at within c.active_comp.result c.args.to of_call
    (λ earlier is. c.active_comp.ensures earlier (subst (λ p. StandsBy main events p earlier)
    (sym c.open_call.ensures.call) is))
