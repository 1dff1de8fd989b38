-- The machine on an image in which the code of a program stands does what that code does, where functions are followed.
use Rattle.sc_emit_run_laws.proofs.Common.{Event, List, ScriptsSimulate, Simulates, nobody}
use Rattle.sc_emit_run_laws.specs.Prelude.{ScriptsStop}
use Rattle.sc_image.specs.Prelude.{machine}
use Rattle.sc_emit_run_laws.proofs.Bodies.{bodies_follow}
use Rattle.sc_emit_run_laws.proofs.Finish.{outcome}
use Rattle.sc_emit_run_laws.proofs.Following.{all_follow}
use Rattle.sc_emit_run_laws.proofs.Scripts.{keeps, stops_so}
use Rattle.sc_emit_run_laws.proofs.Emitted.{has_emitted}

pub simulates : Simulates
simulates program image turn_pays built inputs turns words =
    outcome program image turn_pays built inputs turns (bodies_follow nobody built inputs words
    (λ n P x to index args honest scripted makes settled base at passed stands. cc scripted))

pub scripts_simulate : ScriptsSimulate
scripts_simulate program image turn_pays set built inputs steps events words is_legal =
    let observed : List Event = (machine image inputs steps events).state.trace in
    let all = all_follow built inputs words observed (has_emitted image inputs events steps) is_legal in
    keeps program image turn_pays set built inputs steps events is_legal (λ n. (all n).run) (λ n. (all n).perform)

pub scripts_stop : ScriptsStop
scripts_stop program image turn_pays set built inputs steps events words is_legal traps honest =
    let observed : List Event = (machine image inputs steps events).state.trace in
    let all = all_follow built inputs words observed (has_emitted image inputs events steps) is_legal in
    stops_so program image turn_pays set built inputs steps events is_legal (λ n. (all n).run) (λ n. (all n).perform)
    traps honest
