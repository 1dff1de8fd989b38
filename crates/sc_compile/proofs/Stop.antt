-- Where a trap stops the machine outside of a set that performs its part of the trace, the meaning blames the active
-- compartment there, or its stack is full. The machine stops as Ended exactly where its trace ends with `End`.
use Rattle.sc_compile.proofs.Common.{All, Bool, CompSet, Event, ImageParts, IsBlamed, IsBuilt, IsWellTyped, IsWord}
use Rattle.sc_compile.proofs.Common.{List, None, Option, ProgramTree, Run, SimulatesRun, Some, ap, arith, c_arith}
use Rattle.sc_compile.proofs.Common.{false, inl, inr, legal, length, machine, outcomes_simulate, program_tac, refl}
use Rattle.sc_compile.proofs.Common.{scripted_by, scripted_code_run, scripted_run_of, subst, suc, sym, true, unstopped}
use Rattle.sc_compile.proofs.Common.{wrapped_code_agrees, wrapping, zero, ℕ, ⊎_elim, ◌<◌, ◌∙◌, ◌≡◌, ◌≤◌, ◌⊎◌}
use Rattle.std.proofs.Common.{leb-false, take_all}
use Rattle.std.proofs.lemmas.Option.{same_Some}
use Rattle.std.specs.Prelude.{if◌then◌else◌, nat_le, ◌↔◌}
use Rattle.sc_base.specs.Prelude.{IsPrefix}
use Rattle.sc_base.specs.declared.stop.Stop.{Stop}
use Rattle.sc_base.specs.declared.stop.Stop.TheVariants as ending
use Rattle.sc_event.specs.Prelude.{Standing, at_start, stands_after_all}
use Rattle.sc_core.specs.Prelude.{reaches, stopped_at}
use Rattle.sc_core.specs.declared.run.RunEnd.{RunEnd}
use Rattle.sc_core.specs.declared.run.RunEnd.TheVariants.{Blamed, Ended, EventsOut, TurnsOut}
use Rattle.sc_core.specs.declared.run.SourceRun.{SourceRun}
use Rattle.sc_core_laws.proofs.ProgramLaws.{blamed_stand_active}
use Rattle.sc_core_laws.proofs.Runs.{cut_if, prefix_long, trace_is}
use Rattle.sc_core_laws.specs.Prelude.{StandsActive}
use Rattle.sc_image.proofs.Running.{run_goes, run_out, run_stopped, run_traps}
use Rattle.sc_image.specs.Prelude.{Goes, IsWellFormed, MachineRun, MachineState, Outcome, Traps, is_ended}
use Rattle.sc_image.specs.Prelude.{run as run_on, start, step}
unfoldable use Rattle.sc_image.specs.Machine.{stopped}
use Rattle.sc_emit_run_laws.proofs.Emitted.{walks_there}
use Rattle.sc_emit_run_laws.proofs.Placed.{stands_so, standing_in}
use Rattle.sc_emit_run_laws.proofs.Whole.{scripts_stop}
use Rattle.sc_emit_run_laws.specs.Prelude.{HasOutcome, IsBlamedWithin, IsTrap, StackIsFull}
use Rattle.sc_compile.specs.Prelude.{EndsByEvent, IsBlamedThere}
use Rattle.sc_compile.proofs.Scripted.{IsBlame, blame_of, stops_so}
use Rattle.sc_compile.proofs.Tac.{means_in_c}

-- a run that is blamed where it is stopped is stopped by its blame
uncut : (events : ℕ) (run : SourceRun) → IsBlamed (stopped_at events run).end → stopped_at events run ≡ run
uncut events run ends = by (reaches events run run.end) ends where
  by : (b : Bool) → IsBlamed (cut_if events b run).end → cut_if events b run ≡ run
  by true ends = absurd ends
  by false ends = refl

blame_reaches : (events : ℕ) (run : SourceRun) (end : RunEnd) → IsBlamed end → reaches events run end ≡ false →
    length run.trace < events
blame_reaches events run Ended blame below = absurd blame
blame_reaches events run (Blamed comp cause line) blame below = leb-false events (length run.trace) below
blame_reaches events run TurnsOut blame below = absurd blame
blame_reaches events run EventsOut blame below = absurd blame

-- it has fewer events than it may have
few_events : (events : ℕ) (run : SourceRun) → IsBlamed (stopped_at (suc events) run).end →
    length (stopped_at (suc events) run).trace ≤ events
few_events events run ends = by (reaches (suc events) run run.end) refl ends where
  by : (b : Bool) → reaches (suc events) run run.end ≡ b → IsBlamed (cut_if (suc events) b run).end →
      length (cut_if (suc events) b run).trace ≤ events
  by true is ends = absurd ends
  by false is ends = (let less = blame_reaches (suc events) run run.end ends is in omega (arith, less))

-- A BLAME AT THE MACHINE'S OWN EVENTS

module _ (program : ProgramTree) (image : ImageParts) (formed : IsWellFormed image)
    (main_is : image.main ≡ program.interfaces.main) (set : CompSet) (inputs : List ℕ) (steps events : ℕ) where
  abbrev its : MachineRun
  its = machine image inputs steps events

  abbrev trace : List Event
  trace = its.state.trace

  abbrev meant : SourceRun
  meant = (scripted_run_of c_arith program inputs steps set trace).behaviour

  -- the meaning that may emit one event more
  abbrev longer : SourceRun
  longer = scripted_by c_arith program set trace inputs steps (suc (length trace))

  module _ (blame : IsBlamed longer.end)
      (has : (scripted_by c_arith program set trace inputs steps (length trace)).trace ≡ trace) where
    whole_is : longer ≡ meant
    whole_is = uncut (suc (length trace)) meant blame

    short : length longer.trace ≤ length trace
    short = few_events (length trace) meant blame

    same_trace : longer.trace ≡ trace
    same_trace =
        ap (λ (r : SourceRun). r.trace) whole_is ∙
        sym (take_all (length trace) meant.trace
        (subst (λ (r : SourceRun). length r.trace ≤ length trace) whole_is short)) ∙
        sym (trace_is (length trace) meant) ∙ has

    abbrev found : IsBlame longer.end
    found = blame_of longer.end blame

    active : found.comp ≡ its.state.active
    active =
        let stands : StandsActive program.interfaces.main found.comp longer.trace =
        blamed_stand_active.programs c_arith program set trace inputs steps (suc (length trace)) found.comp found.cause
        found.line found.is in
        let way = walks_there image inputs events steps in
        let place : stands.at ≡ standing_in its.state =
        (stands_so image inputs formed way.0 its.state way.1).place stands.at
        (ap (λ main. stands_after_all (at_start main) trace) main_is ∙
        ap (λ t. stands_after_all (at_start program.interfaces.main) t) (sym same_trace) ∙ stands.stood) in
        sym stands.active ∙ ap (λ (at : Standing). at.active.comp) place

    pub blamed_there : IsBlamedThere program set inputs steps its.state
    blamed_there =
        let ends : longer.end ≡ Blamed its.state.active found.cause found.line =
        found.is ∙ ap (λ c. Blamed c found.cause found.line) active in
        record { cause = found.cause; line = found.line; is = λ i. record { trace = same_trace i; end = ends i } }

-- WHERE A TRAP STOPS THE MACHINE

module _ (program : ProgramTree) (typed : IsWellTyped program) (image : ImageParts) (turn_pays : ℕ) (set : CompSet)
    (built : IsBuilt set (program_tac program) image turn_pays) (inputs : List ℕ) (steps events : ℕ) where
  abbrev run_there : MachineRun
  run_there = machine image inputs steps events

  abbrev emitted : List Event
  emitted = run_there.state.trace

  abbrev run : Run
  run = scripted_run_of c_arith program inputs steps set emitted

  abbrev code : Run
  code = scripted_code_run c_arith (program_tac program) inputs steps set emitted

  simulated : All IsWord inputs → (came : HasOutcome image inputs steps
      (scripted_code_run wrapping (program_tac program) inputs steps set emitted)) →
      SimulatesRun image inputs came.bound steps run
  simulated words came =
      outcomes_simulate.along image inputs came.bound steps run code
      ((means_in_c program typed).scripted inputs steps set emitted)
      (outcomes_simulate.emits image inputs came.bound steps code
      (scripted_code_run wrapping (program_tac program) inputs steps set emitted) built.linked.formed words
      (wrapped_code_agrees.scripted (program_tac program) set emitted inputs steps) came.outcome)

  -- a blame within the machine's events comes where the run may emit one event more than these
  blamed_longer : IsBlamedWithin emitted (stopped_at events run.behaviour) →
      IsBlamed (scripted_by c_arith program set emitted inputs steps (suc (length emitted))).end
  blamed_longer within =
      let whole : stopped_at events run.behaviour ≡ run.behaviour = uncut events run.behaviour within.0 in
      let blame : IsBlamed run.behaviour.end = subst (λ (r : SourceRun). IsBlamed r.end) whole within.0 in
      let prefix : IsPrefix run.behaviour.trace emitted =
      subst (λ (r : SourceRun). IsPrefix r.trace emitted) whole within.1 in
      let few : length run.behaviour.trace ≤ length emitted = prefix_long run.behaviour.trace emitted prefix in
      subst (λ (r : SourceRun). IsBlamed r.end)
      (sym (unstopped (suc (length emitted)) run.behaviour (stops_so run.behaviour.end blame) (omega (arith, few))))
      blame

  pub traps_outside : All IsWord inputs → legal program.interfaces emitted ≡ true → IsTrap run_there.stop →
      set run_there.state.active ≡ false →
      (scripted_by c_arith program set emitted inputs steps (length emitted)).trace ≡ emitted →
      IsBlamedThere program set inputs steps run_there.state ⊎ StackIsFull image run_there run events
  traps_outside words is_legal traps honest has =
      ⊎_elim
      (λ within. inl (blamed_there program image built.linked.formed built.linked.main set inputs steps events
      (blamed_longer within) has)) (λ full. inr full)
      ((simulated words (scripts_stop (program_tac program) image turn_pays set built inputs steps events words is_legal
      traps honest)).trapped steps events (omega arith) traps)

-- WHERE A RUN STOPS AS ENDED

abbrev EndsSo : MachineRun → Type 0
EndsSo r = (r.stop ≡ ending.Ended) ↔ (is_ended r.state.trace ≡ true)

stopped_so : (events : ℕ) (state : MachineState) (stop : Stop) → stopped events state.trace ≡ Some stop →
    EndsSo (record { state = state; stop = stop })
unfolding stopped
stopped_so events state stop is = by (is_ended state.trace) (nat_le events (length state.trace)) is where
  by : (ended full : Bool) →
      (if ended then Some ending.Ended else if full then Some ending.EventsOut else None) ≡ Some stop →
      (stop ≡ ending.Ended) ↔ (ended ≡ true)
  by true full is = ((λ same. refl), (λ same. sym (same_Some ending.Ended stop is)))
  by false true is = (
    (λ same. (let clash : ending.EventsOut ≡ ending.Ended = same_Some ending.EventsOut stop is ∙ same in cc clash)),
    (λ never. cc never),
  )
  by false false is = cc is

not_over : (events : ℕ) (trace : List Event) → stopped events trace ≡ None → is_ended trace ≡ true → ⊥
unfolding stopped
not_over events trace is ended = by (is_ended trace) (nat_le events (length trace)) is ended where
  by : (over full : Bool) →
      (if over then Some ending.Ended else if full then Some ending.EventsOut else None) ≡ None → over ≡ true → ⊥
  by true full is same = cc is
  by false full is same = cc same

module _ (image : ImageParts) (inputs : List ℕ) (events : ℕ) where
  ends_by : (n : ℕ) (from : MachineState) → ((next : MachineState) → EndsSo (run_on image inputs events n next)) →
      stopped events from.trace ≡ None → (outcome : Outcome) → step image inputs from ≡ outcome →
      EndsSo (run_on image inputs events (suc n) from)
  ends_by n from later early (Goes next) is =
      subst EndsSo (sym (run_goes image inputs events n from next early is)) (later next)
  ends_by n from later early (Traps reason) is =
      subst EndsSo (sym (run_traps image inputs events n from reason early is))
      ((λ same. cc same), (λ ended. absurd (not_over events from.trace early ended)))

  ends_or : (n : ℕ) (from : MachineState) (o : Option Stop) → stopped events from.trace ≡ o →
      (stopped events from.trace ≡ None → EndsSo (run_on image inputs events n from)) →
      EndsSo (run_on image inputs events n from)
  ends_or n from None early going = going early
  ends_or n from (Some stop) early going =
      subst EndsSo (sym (run_stopped image inputs events n from stop early)) (stopped_so events from stop early)

  pub ends_so : (n : ℕ) (from : MachineState) → EndsSo (run_on image inputs events n from)
  ends_so zero from =
      ends_or 0 from (stopped events from.trace) refl
      (λ early. subst EndsSo (sym (run_out image inputs events from early))
      ((λ same. cc same), (λ ended. absurd (not_over events from.trace early ended))))
  ends_so (suc n) from =
      ends_or (suc n) from (stopped events from.trace) refl
      (λ early. ends_by n from (ends_so n) early (step image inputs from) refl)

pub ends_by_event : (image : ImageParts) → EndsByEvent image
ends_by_event image inputs steps events = ends_so image inputs events steps (start image)
