-- A run of the machine emits no more events than were allowed.
use Rattle.sc_chain.proofs.Common.{Goes, ImageParts, IsWellFormed, List, None, Option, Outcome, MachineRun, Some}
use Rattle.sc_chain.proofs.Common.{MachineState, Stop}
use Rattle.sc_chain.proofs.Common.{Traps, arith, length, machine, refl, run, start, step, stopped, subst, suc, sym}
use Rattle.sc_chain.proofs.Common.{zero, ℕ, ◌≡◌, ◌≤◌}
use Rattle.sc_image.proofs.Running.{run_goes, run_out, run_stopped, run_traps}
use Rattle.sc_image.proofs.Stretches.{goes_one}
use Rattle.sc_machine.proofs.Runs.{room_left}

module _ (image : ImageParts) (inputs : List ℕ) (formed : IsWellFormed image) (events : ℕ) where
  few_from : (steps : ℕ) (state : MachineState) → length state.trace ≤ events →
      length (run image inputs events steps state).state.trace ≤ events
  few_from zero state few = by (stopped events state.trace) refl where
    by : (early : Option Stop) → stopped events state.trace ≡ early →
        length (run image inputs events 0 state).state.trace ≤ events
    by None is = subst (λ (r : MachineRun). length r.state.trace ≤ events) (sym (run_out image inputs events state is))
        few
    by (Some stop) is =
        subst (λ (r : MachineRun). length r.state.trace ≤ events) (sym (run_stopped image inputs events 0 state stop
        is)) few
  few_from (suc steps) state few =
      by (few_from steps) (stopped events state.trace) refl (step image inputs state) refl where
        by : ((next : MachineState) → length next.trace ≤ events →
            length (run image inputs events steps next).state.trace ≤ events) →
            (early : Option Stop) → stopped events state.trace ≡ early →
            (outcome : Outcome) → step image inputs state ≡ outcome →
            length (run image inputs events (suc steps) state).state.trace ≤ events
        by later (Some stop) is outcome goes =
            subst (λ (r : MachineRun). length r.state.trace ≤ events)
            (sym (run_stopped image inputs events (suc steps) state stop is)) few
        by later None is (Goes next) goes =
            let more : length next.trace ≤ suc (length state.trace) =
            goes_one image inputs formed state next goes in
            subst (λ (r : MachineRun). length r.state.trace ≤ events)
            (sym (run_goes image inputs events steps state next is goes))
            (later next (omega (arith, room_left events state.trace is, more)))
        by later None is (Traps reason) goes =
            subst (λ (r : MachineRun). length r.state.trace ≤ events)
            (sym (run_traps image inputs events steps state reason is goes)) few

pub few_events : (image : ImageParts) (inputs : List ℕ) (steps events : ℕ) → IsWellFormed image →
    length (machine image inputs steps events).state.trace ≤ events
few_events image inputs steps events formed = few_from image inputs formed events steps (start image) (omega arith)
