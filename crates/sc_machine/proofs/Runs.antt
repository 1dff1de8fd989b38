-- Runs, step by step and call by call, and instructions that answer whether they were executed.
use Rattle.sc_machine.proofs.Common.{Bool, Err, Goes, ImageParts, IsTrue, List, None, Ok, Option, Outcome, Result}
use Rattle.sc_machine.proofs.Common.{MachineRun}
use Rattle.sc_machine.proofs.Common.{Some, MachineState, Traps, [], add-zero, add_assoc, ap, continued, false≢true}
use Rattle.sc_machine.proofs.Common.{fold}
use Rattle.sc_machine.proofs.Common.{is_ok, length, machine, outcome_of, refl, run, run_by, run_goes, run_more}
use Rattle.sc_machine.proofs.Common.{run_traps}
use Rattle.sc_machine.proofs.Common.{arith, cases_lt, run_out}
use Rattle.sc_machine.proofs.Common.{step, stopped, stops_or, suc, sum, sym, unwrap_or, ℕ, ⊎_elim, ◌++◌, ◌+◌, ◌-◌}
use Rattle.sc_machine.proofs.Common.{◌<◌, ◌∙◌, ◌∷◌, ◌≡◌, ◌≤◌}
use Rattle.sc_base.specs.declared.stop.TrapReason.{TrapReason}
use Rattle.sc_event.specs.declared.event.Event.{Event}
use Rattle.sc_base.specs.declared.stop.Stop.{Stop}
use Rattle.std.proofs.Common.{zero-add}
use Rattle.std.proofs.lemmas.List.Sums.{fold-append, sum_by-cons}
use Rattle.sc_base.specs.declared.stop.Stop.TheVariants.{Ended, EventsOut, StepsOut, Trap}
use Rattle.sc_image.specs.Prelude.{start}
use Rattle.sc_machine.specs.Calls.{IsTaken, calls, loaded}
use Rattle.sc_image.proofs.Stretches.{has_room}

-- a run that isn't stopped has room for another event
pub room_left : (events : ℕ) (trace : List Event) → stopped events trace ≡ None → length trace < events
room_left events trace early = has_room events trace early

-- the last steps of a run
module _ (image : ImageParts) (inputs : List ℕ) (events : ℕ) (state : MachineState) where
  no_more : (early : Option Stop) → ◌≡◌ {A = MachineRun} (stops_or early state (record {
    state = state;
    stop = StepsOut;
  }))
      (record { state = state; stop = unwrap_or early StepsOut })
  no_more None = refl
  no_more (Some stop) = refl

  pub no_steps : (left : ℕ) → left ≡ 0 →
      run image inputs events left state ≡ record {
        state = state;
        stop = unwrap_or (stopped events state.trace) StepsOut;
      }
  unfolding run_by
  no_steps left none = rw none (no_more _)

  -- one of the steps that are left
  pub trapped : (left n : ℕ) (reason : TrapReason) → left ≡ suc n → stopped events state.trace ≡ None →
      Traps reason ≡ step image inputs state →
      run image inputs events left state ≡ record { state = state; stop = Trap reason state.pc }
  trapped left n reason more early is = rw more (run_traps image inputs events n state reason early (sym is))

  pub gone : (left n : ℕ) (next : MachineState) → left ≡ suc n → stopped events state.trace ≡ None →
      Goes next ≡ step image inputs state → run image inputs events left state ≡ run image inputs events n next
  gone left n next more early is = rw more (run_goes image inputs events n state next early (sym is))

-- A run that stands in this state after `count` steps from the first one, and goes on: with fewer it is out of steps.
module _ (image : ImageParts) (inputs : List ℕ) (events : ℕ) (first : MachineState) where
  abbrev run_from : (steps : ℕ) → MachineRun
  run_from steps = run image inputs events steps first

  pub record Stands (count : ℕ) (now : MachineState) : Type 0 where
    pub on : (n : ℕ) → run_from (count + n) ≡ run image inputs events n now
    pub least : (fewer : ℕ) → fewer < count → (run_from fewer).stop ≡ StepsOut

  pub begun : Stands 0 first
  begun = record {
    on = λ n. ap run_from (zero-add n);
    least = λ fewer below. absurd (omega (arith, below));
  }

  -- with the steps that are left
  pub left_is : (count : ℕ) (now : MachineState) → Stands count now → (steps : ℕ) → count ≤ steps →
      run image inputs events (steps - count) now ≡ run_from steps
  left_is count now stands steps few =
      (let all : count + (steps - count) ≡ steps = omega (arith, few) in
      sym (stands.on (steps - count)) ∙ ap run_from all)

  -- a run that is out of steps has taken all of them, and one that halts at once has taken none
  pub out_taken : (now : MachineState) (steps : ℕ) → Stands steps now →
      IsTaken image inputs events steps (record { state = first; stop = StepsOut }) steps
  out_taken now steps stands = record { few = omega arith; same = refl; least = stands.least }

  pub none_taken : (halted : MachineRun) → ((n : ℕ) → run_from n ≡ halted) → (steps : ℕ) →
      IsTaken image inputs events steps (record { state = first; stop = StepsOut }) 0
  none_taken halted halts steps = record {
    few = omega arith;
    same = halts 0 ∙ sym (halts steps);
    least = λ fewer below. absurd (omega (arith, below));
  }

  module _ (count : ℕ) (now : MachineState) (stands : Stands count now) (early : stopped events now.trace ≡ None) where
    -- with fewer steps than one more
    no_more_least : (fewer : ℕ) → fewer < count + 1 → (run_from fewer).stop ≡ StepsOut
    no_more_least fewer below =
        ⊎_elim (λ less. stands.least fewer less) (λ from.
        (let here : fewer ≡ count + 0 = omega (arith, below, from) in
        ap (λ n. (run_from n).stop) here ∙ ap (λ (r : MachineRun). r.stop) (stands.on 0) ∙
        ap (λ (r : MachineRun). r.stop) (run_out image inputs events now early))) (cases_lt fewer count)

    pub goes_on : (next : MachineState) → Goes next ≡ step image inputs now → Stands (count + 1) next
    goes_on next is = record {
      on = λ n. (let more : count + 1 + n ≡ count + suc n = omega arith in
          ap run_from more ∙ stands.on (suc n) ∙ run_goes image inputs events n now next early (sym is));
      least = no_more_least;
    }

    -- or halts so by the next step
    module _ (halted : MachineRun) (halts : (n : ℕ) → run image inputs events (suc n) now ≡ halted) (steps : ℕ)
        (left : count < steps) where
      pub halts_taken : IsTaken image inputs events steps (record { state = first; stop = StepsOut }) (count + 1)
      halts_taken = record {
        few = omega (arith, left);
        same = stands.on 1 ∙ halts 0 ∙ sym (halts (steps - count - 1)) ∙
            (let more : suc (steps - count - 1) ≡ steps - count = omega (arith, left) in
            ap (λ n. run image inputs events n now) more) ∙ left_is count now stands steps (omega (arith, left));
        least = no_more_least;
      }

-- Calls.

module _ (image : ImageParts) (inputs : List ℕ) (events : ℕ) where
  later_calls : (n : ℕ) (more : List ℕ) (state : MachineState) → fold (λ earlier m. continued (run image inputs events
      m) earlier)
      (run image inputs events n state) more ≡ run image inputs events (n + sum more) state
  later_calls n [] state = ap (λ k. run image inputs events k state) (sym (add-zero n))
  later_calls n (m ∷ more) state =
      ap (λ r. fold (λ earlier m. continued (run image inputs events m) earlier) r more)
      (sym (run_more image inputs events m n state)) ∙ later_calls (n + m) more state ∙
      ap (λ k. run image inputs events k state) (add_assoc n m _ ∙ ap (λ k. n + k) (sym (sum_by-cons _ m more)))

  -- one more call
  pub called_again : (steps : ℕ) (old new : MachineRun) → new ≡ continued (run image inputs events steps) old →
      (earlier : List ℕ) → old ≡ calls image inputs events earlier →
      new ≡ calls image inputs events (earlier ++ steps ∷ [])
  called_again steps old new is earlier made = is ∙ ap (continued (run image inputs events steps)) made ∙
      sym (fold-append _ (loaded image) earlier (steps ∷ []))

  pub sum_of_calls : (steps : ℕ) (old new : MachineRun) → new ≡ continued (run image inputs events steps) old →
      (earlier : List ℕ) → old ≡ calls image inputs events earlier →
      new ≡ machine image inputs (sum earlier + steps) events
  sum_of_calls steps old new is [] made = is ∙ ap (continued (run image inputs events steps)) made ∙
      ap (λ k. run image inputs events k (start image)) (sym (zero-add steps))
  sum_of_calls steps old new is (first ∷ more) made =
      is ∙ ap (continued (run image inputs events steps)) (made ∙ later_calls first more (start image)) ∙
      sym (run_more image inputs events steps (first + sum more) (start image)) ∙
      ap (λ k. run image inputs events (k + steps) (start image)) (sym (sum_by-cons _ first more))

-- a run that isn't out of steps takes no more
pub halted_taken : (image : ImageParts) (inputs : List ℕ) (events steps : ℕ) (state : MachineState) (stop : Stop) →
    (stop ≡ StepsOut → ⊥) → IsTaken image inputs events steps (record { state = state; stop = stop }) 0
halted_taken image inputs events steps state stop halted = record {
  few = omega arith;
  same = by stop halted;
  least = λ fewer below. absurd (omega (arith, below));
}
  where
    by : (stop : Stop) → (stop ≡ StepsOut → ⊥) →
        continued (run image inputs events 0) (record { state = state; stop = stop }) ≡
        continued (run image inputs events steps) (record { state = state; stop = stop })
    by StepsOut halted = absurd (halted refl)
    by Ended halted = refl
    by EventsOut halted = refl
    by (Trap reason pc) halted = refl

-- Instructions that answer whether they were executed, and what the hart is after them.

pub goes_if : {A : Type 0} (result : Result A TrapReason) (went : Bool) (state : MachineState) (outcome : Outcome) →
    went ≡ is_ok result → outcome_of result state ≡ outcome → IsTrue went → Goes state ≡ outcome
goes_if (Ok _) went state outcome is same sure = same
goes_if (Err reason) went state outcome is same sure = absurd (false≢true (sym is ∙ sure))
