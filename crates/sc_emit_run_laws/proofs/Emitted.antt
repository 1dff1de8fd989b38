-- Some number of steps from the start emits the trace of a run.
use Rattle.sc_emit_run_laws.proofs.Common.{Goes, HasEmitted, ImageParts, List, None, Option, Outcome, Some, Stop, Traps}
use Rattle.sc_emit_run_laws.proofs.Common.{ap, refl, run, run_goes, run_out, run_stopped, run_traps, start, step}
use Rattle.sc_emit_run_laws.proofs.Common.{stopped, suc, sym, then_on, walk, zero, ℕ, ◌∙◌, ◌≡◌}
use Rattle.sc_image.specs.Prelude.{MachineState, Walks, machine}

module _ (image : ImageParts) (inputs : List ℕ) (events : ℕ) where
  -- `taken` steps lead from a state to where a run from it stops
  record IsWalked (from to : MachineState) : Type 0 where
    taken : ℕ
    walks : walk image inputs taken from ≡ Goes to

  stands : (from to : MachineState) → to ≡ from → IsWalked from to
  stands from to same = record { taken = 0; walks = ap Goes (sym same) }

  by_step : (n : ℕ) (from : MachineState) → ((next : MachineState) → IsWalked next (run image inputs events n
      next).state) →
      stopped events from.trace ≡ None → (outcome : Outcome) → step image inputs from ≡ outcome →
      IsWalked from (run image inputs events (suc n) from).state
  by_step n from later early (Goes next) is =
      let rest = later next in
      record {
        taken = suc rest.taken;
        walks = ap (λ o. then_on o (walk image inputs rest.taken)) is ∙ rest.walks ∙
            ap (λ r. Goes r.state) (sym (run_goes image inputs events n from next early is));
      }
  by_step n from later early (Traps reason) is =
      stands from (run image inputs events (suc n) from).state
      (ap (λ r. r.state) (run_traps image inputs events n from reason early is))

  -- it stops there, or goes on
  or_stopped : (n : ℕ) (from : MachineState) (o : Option Stop) → stopped events from.trace ≡ o →
      (stopped events from.trace ≡ None → IsWalked from (run image inputs events n from).state) →
      IsWalked from (run image inputs events n from).state
  or_stopped n from None early going = going early
  or_stopped n from (Some stop) early going =
      stands from (run image inputs events n from).state
      (ap (λ r. r.state) (run_stopped image inputs events n from stop early))

  walked : (n : ℕ) (from : MachineState) → IsWalked from (run image inputs events n from).state
  walked zero from =
      or_stopped 0 from (stopped events from.trace) refl
      (λ early. stands from (run image inputs events 0 from).state
      (ap (λ r. r.state) (run_out image inputs events from early)))
  walked (suc n) from =
      or_stopped (suc n) from (stopped events from.trace) refl
      (λ early. by_step n from (walked n) early (step image inputs from) refl)

  -- the way to the state in which a run stops
  pub walks_there : (steps : ℕ) →
      (taken : ℕ) × Walks image inputs taken (start image) (machine image inputs steps events).state
  walks_there steps = (let way = walked steps (start image) in (way.taken, record { by = way.walks }))

  pub has_emitted : (steps : ℕ) → HasEmitted image inputs (machine image inputs steps events).state.trace
  has_emitted steps =
      let way = walked steps (start image) in
      record {
        steps = way.taken;
        last = (machine image inputs steps events).state;
        walks = record { by = way.walks };
        trace_is = refl;
      }
