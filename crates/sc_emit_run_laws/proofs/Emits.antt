-- The traces of the machine's runs, by what it does beside a run.
use Rattle.sc_emit_run_laws.proofs.Common.{AgreesInDepth, AgreesUntilBlame, AllBefore, AllFrom, Blamed, Bool, Closed}
use Rattle.sc_emit_run_laws.proofs.Common.{End, Ended, Event, EventsOut, Finishes, FrameChange, Goes, ImageParts}
use Rattle.sc_emit_run_laws.proofs.Common.{IsBlamed, IsFull, IsPrefix, IsStop, IsWellFormed, List, None, Opened}
use Rattle.sc_emit_run_laws.proofs.Common.{OutcomesSimulate, Owner, Reaches, Run, RunEnd, RunsAgree, RunsUntilBlame}
use Rattle.sc_emit_run_laws.proofs.Common.{SimulatesRun, SourceRun, StackIsFull, Stands, Traps, TurnsOut, [], ap, arith}
use Rattle.sc_emit_run_laws.proofs.Common.{before_more, blamed, blamed_run, deepest, deepest_is_reached, depth_after}
use Rattle.sc_emit_run_laws.proofs.Common.{depth_in, drop, on_end, false, finishes, inl, inr, is_full, leb-false}
use Rattle.sc_emit_run_laws.proofs.Common.{leb-true, length, length-append, lt-leb, ltb-false, ltb-true, nat_le, nat_lt}
use Rattle.sc_emit_run_laws.proofs.Common.{not_stopped, prefix_more, prefix_same, reaches, refl, reg, run, run_goes}
use Rattle.sc_emit_run_laws.proofs.Common.{run_stopped, run_traps, same, same_run, stack_size, stands, start, step}
use Rattle.sc_emit_run_laws.proofs.Common.{steps_emit, stopped, stopped_at, subst, suc, sym, take, take-append-drop}
use Rattle.sc_emit_run_laws.proofs.Common.{take_prefixes, trace_is, true, without_line, zero, ℕ, ⊎_elim, ◌++◌, ◌+◌, ◌-◌}
use Rattle.sc_emit_run_laws.proofs.Common.{◌<◌, ◌∙◌, ◌∷◌, ◌≡◌, ◌≤◌, ◌⊎◌}
use Rattle.sc_image.specs.Prelude.{MachineRun, MachineState, a0, machine}
use Rattle.sc_core_laws.proofs.Runs.{prefix_long}
use Rattle.sc_emit_run_laws.specs.Prelude.{ExceedsStack, IsBlamedWithin, IsTrap, Moment, Outcome}
use Rattle.std.proofs.Common.{take_all}
use Rattle.sc_base.specs.declared.stop.Stop.TheVariants.{Ended as EndedStop, Trap}
use Rattle.sc_emit_run_laws.proofs.Along.{Along, along, prefix_taken, not_over, run_prefix}

-- FRAMES

-- the first of changes that were all made after a moment
from_first : (n : ℕ) (xs ys : List FrameChange) → AllFrom n (xs ++ ys) → AllFrom n xs
from_first n [] ys late = tt
from_first n (Opened timed c size ∷ xs) ys late = (late.0, from_first n xs ys late.1)
from_first n (Closed timed c size ∷ xs) ys late = (late.0, from_first n xs ys late.1)

-- changes that were made before a moment stand before those that were made after it
earlier_first : (n m k : ℕ) → n ≤ m → (xs ys more less : List FrameChange) → xs ++ more ≡ ys ++ less →
    AllBefore n xs → AllFrom m less → AllFrom k more → (prefix : IsPrefix xs ys) × AllFrom k prefix.more
earlier_first n m k le [] ys more less is before late after =
    (record { more = ys; is = refl }, from_first k ys less (subst (AllFrom k) is after))
earlier_first n m k le (x ∷ xs) [] more less is before late after = absurd (never x is before) where
  never : (x : FrameChange) → x ∷ (xs ++ more) ≡ less → AllBefore n (x ∷ xs) → ⊥
  never (Opened timed c size) is before =
      let later : AllFrom m (Opened timed c size ∷ (xs ++ more)) = subst (AllFrom m) (sym is) late in
      omega (arith, le, before.0, later.0)
  never (Closed timed c size) is before =
      let later : AllFrom m (Closed timed c size ∷ (xs ++ more)) = subst (AllFrom m) (sym is) late in
      omega (arith, le, before.0, later.0)
earlier_first n m k le (x ∷ xs) (y ∷ ys) more less is before late after =
    let first : x ≡ y = cc in
    let rest : xs ++ more ≡ ys ++ less = cc in
    on first (earlier_first n m k le xs ys more less rest (tail x before) late after) where
      tail : (x : FrameChange) → AllBefore n (x ∷ xs) → AllBefore n xs
      tail (Opened timed c size) before = before.1
      tail (Closed timed c size) before = before.1

      on : x ≡ y → (prefix : IsPrefix xs ys) × AllFrom k prefix.more →
          (prefix : IsPrefix (x ∷ xs) (y ∷ ys)) × AllFrom k prefix.more
      on first prefix = (record { more = prefix.0.more; is = (λ i. sym first i ∷ prefix.0.is i) }, prefix.1)

-- TRACES
take_within : {A : Type 0} (n : ℕ) (xs more : List A) → n ≤ length xs → take n xs ≡ take n (xs ++ more)
take_within zero xs more le = refl
take_within (suc n) [] more le = absurd (omega (arith, le))
take_within (suc n) (x ∷ xs) more le = ap (λ ys. x ∷ ys) (take_within n xs more (omega (arith, le)))

take_same : {A : Type 0} (n : ℕ) (xs ys : List A) → IsPrefix xs ys → n ≤ length xs → take n xs ≡ take n ys
take_same n xs ys prefix le = take_within n xs prefix.more le ∙ ap (take n) (sym prefix.is)

-- of two prefixes of a list the one that is no longer is a prefix of the other
pub shorter_first : {A : Type 0} (xs ys zs : List A) → IsPrefix xs zs → IsPrefix ys zs → length xs ≤ length ys →
    IsPrefix xs ys
shorter_first xs ys zs a b le =
    let begins : take (length xs) ys ≡ xs =
    take_same (length xs) ys zs b le ∙ sym (take_same (length xs) xs zs a (omega arith)) ∙
    take_all (length xs) xs (omega arith) in
    record {
      more = drop (length xs) ys;
      is = sym (take-append-drop (length xs) ys) ∙ ap (λ t. t ++ drop (length xs) ys) begins;
    }

-- STOPPED RUNS
blame_stops : (end : RunEnd) → IsBlamed end → IsStop end
blame_stops Ended h = absurd h
blame_stops (Blamed comp cause line) h = tt
blame_stops TurnsOut h = absurd h
blame_stops EventsOut h = absurd h

unstopped_by : (events : ℕ) (run : SourceRun) (end : RunEnd) → IsStop end → length run.trace < events →
    reaches events run end ≡ false
unstopped_by events run Ended stop short = absurd stop
unstopped_by events run (Blamed comp cause line) stop short = lt-leb events (length run.trace) short
unstopped_by events run TurnsOut stop short = lt-leb events (length run.trace) short
unstopped_by events run EventsOut stop short = absurd stop

-- one that has fewer events than it may is stopped by nothing
pub unstopped : (events : ℕ) (run : SourceRun) → IsStop run.end → length run.trace < events →
    stopped_at events run ≡ run
unstopped events run stop short = rw (unstopped_by events run run.end stop short) refl

module _ (image : ImageParts) (inputs : List ℕ) (formed : IsWellFormed image) where
  -- A stretch from the start.
  module _ (bound : ℕ) (place : Reaches image inputs bound) (events : ℕ) where
    abbrev reached : MachineState
    reached = place.reached

    abbrev observed : (steps : ℕ) → List Event
    observed steps = (machine image inputs steps events).state.trace

    way : Along image inputs formed events reached place.going place.steps (start image)
    way = along image inputs formed events reached place.going place.steps (start image) place.walks.by (omega arith)

    -- no more steps than the stretch has
    pub few : (steps : ℕ) → steps ≤ place.steps → IsPrefix (observed steps) (take events reached.trace)
    few steps le = way.fewer steps le

    -- at least as many steps, where the trace of the stretch has `events` events or more
    pub full : (steps : ℕ) → place.steps ≤ steps → events ≤ length reached.trace →
        observed steps ≡ take events reached.trace
    full steps le long = way.full steps le long

    -- at least as many, where it has fewer
    further : (more : ℕ) → length reached.trace < events →
        machine image inputs (place.steps + more) events ≡ run image inputs events more reached
    further more short = way.further more short

    early : length reached.trace < events → stopped events reached.trace ≡ None
    early short = not_stopped image inputs formed events reached.trace (not_over reached.trace place.going) short

    -- the steps that are left after the stretch
    rest_is : (steps : ℕ) → place.steps ≤ steps → place.steps + (steps - place.steps) ≡ steps
    rest_is steps le = omega (arith, le)

    on_from : (steps : ℕ) → place.steps ≤ steps → length reached.trace < events →
        machine image inputs steps events ≡ run image inputs events (steps - place.steps) reached
    on_from steps le short =
        ap (λ k. machine image inputs k events) (sym (rest_is steps le)) ∙ further (steps - place.steps) short

    -- where one more step ends the run
    ended_run : (steps : ℕ) → place.steps < steps → length reached.trace < events →
        step image inputs reached ≡ Goes (on_end reached) →
        machine image inputs steps events ≡ record { state = on_end reached; stop = EndedStop }
    ended_run steps less short goes =
        let one : steps - place.steps ≡ suc (steps - place.steps - 1) = omega (arith, less) in
        on_from steps (omega (arith, less)) short ∙ ap (λ k. run image inputs events k reached) one ∙
        run_goes image inputs events (steps - place.steps - 1) reached (on_end reached) (early short) goes ∙
        run_stopped image inputs events (steps - place.steps - 1) (on_end reached) EndedStop
        (steps_emit.ended_stops events reached)

    pub ended_is : (steps : ℕ) → place.steps < steps → length reached.trace < events →
        step image inputs reached ≡ Goes (on_end reached) → observed steps ≡ (on_end reached).trace
    ended_is steps less short goes = ap (λ r. r.state.trace) (ended_run steps less short goes)

    -- where one more step is a trap
    pub trapped_is : (steps : ℕ) → place.steps < steps → length reached.trace < events →
        step image inputs reached ≡ Traps Owner →
        machine image inputs steps events ≡ record { state = reached; stop = Trap Owner reached.pc }
    trapped_is steps less short traps =
        let one : steps - place.steps ≡ suc (steps - place.steps - 1) = omega (arith, less) in
        on_from steps (omega (arith, less)) short ∙ ap (λ k. run image inputs events k reached) one ∙
        run_traps image inputs events (steps - place.steps - 1) reached Owner (early short) traps

    -- a run that a trap stops has gone past the stretch, and may emit more than it
    pub record IsPast (steps : ℕ) : Type 0 where
      pub more : place.steps < steps
      pub short : length reached.trace < events

    pub past_it : (steps : ℕ) → IsTrap (machine image inputs steps events).stop → IsPast steps
    past_it steps traps = by (nat_lt place.steps steps) (nat_le events (length reached.trace)) refl refl where
      by : (further full : Bool) → nat_lt place.steps steps ≡ further → nat_le events (length reached.trace) ≡ full →
          IsPast steps
      by true true is it = absurd (way.trapless steps (inr (leb-true events (length reached.trace) it)) traps)
      by true false is it = record {
        more = ltb-true place.steps steps is;
        short = leb-false events (length reached.trace) it;
      }
      by false full is it = absurd (way.trapless steps (inl (ltb-false place.steps steps is)) traps)

    pub later_prefix : (steps : ℕ) → place.steps ≤ steps → length reached.trace < events →
        IsPrefix reached.trace (observed steps)
    later_prefix steps le short =
        subst (λ r. IsPrefix reached.trace r.state.trace) (sym (on_from steps le short))
        (run_prefix image inputs formed events (steps - place.steps) reached)

    -- by a longer trace, of which that of the stretch is a prefix
    covered : (whole : List Event) → IsPrefix reached.trace whole → (steps : ℕ) → place.steps ≤ steps →
        events ≤ length reached.trace → observed steps ≡ take events whole
    covered whole prefix steps le long = full steps le long ∙ take_same events reached.trace whole prefix long

    uncovered : (whole : List Event) → IsPrefix reached.trace whole → (steps : ℕ) → steps ≤ place.steps →
        IsPrefix (observed steps) (take events whole)
    uncovered whole prefix steps le =
        prefix_more (observed steps) (take events reached.trace) (take events whole) (few steps le)
        (take_prefixes events events reached.trace whole (omega arith) prefix)

  -- WHERE `main` RETURNS
  module _ (bound turns : ℕ) (run : Run) (f : Finishes image inputs bound turns run) (events : ℕ) where
    abbrev last : MachineState
    last = f.place.reached

    abbrev whole : List Event
    whole = run.behaviour.trace

    last_prefix : IsPrefix last.trace whole
    last_prefix = record { more = End last.active (reg last a0) ∷ []; is = sym f.trace }

    finish_is : (steps : ℕ) → f.place.steps < steps → observed bound f.place events steps ≡ take events whole
    finish_is steps less = by (nat_le events (length last.trace)) refl where
      by : (b : Bool) → nat_le events (length last.trace) ≡ b → observed bound f.place events steps ≡ take events whole
      by true is =
          covered bound f.place events whole last_prefix steps (omega (arith, less))
          (leb-true events (length last.trace) is)
      by false is =
          let short : length last.trace < events = leb-false events (length last.trace) is in
          let long : length whole ≡ length last.trace + 1 =
          ap length (sym f.trace) ∙ length-append last.trace (End last.active (reg last a0) ∷ []) in
          ended_is bound f.place events steps less short f.ends ∙ f.trace ∙
          sym (take_all events whole (omega (arith, short, long)))

    -- no trap stops it
    finish_trapless : (steps : ℕ) → IsTrap (machine image inputs steps events).stop → ⊥
    finish_trapless steps traps =
        let past : IsPast bound f.place events steps = past_it bound f.place events steps traps in
        subst (λ r. IsTrap r.stop) (ended_run bound f.place events steps past.more past.short f.ends) traps

    finish_back : (steps : ℕ) → IsPrefix (observed bound f.place events steps) (take events whole)
    finish_back steps = by (nat_lt f.place.steps steps) refl where
      by : (b : Bool) → nat_lt f.place.steps steps ≡ b →
          IsPrefix (observed bound f.place events steps) (take events whole)
      by true is =
          subst (λ t. IsPrefix t (take events whole)) (sym (finish_is steps (ltb-true f.place.steps steps is)))
          (prefix_same (take events whole))
      by false is =
          uncovered bound f.place events whole last_prefix steps (ltb-false f.place.steps steps is)

  -- WHERE THE RUN STOPS
  module _ (bound turns : ℕ) (run : Run) (f : Stands image inputs bound turns run) (events : ℕ) where
    abbrev there : MachineState
    there = f.place.reached

    abbrev all : List Event
    all = run.behaviour.trace

    there_prefix : IsPrefix there.trace all
    there_prefix = subst (IsPrefix there.trace) f.trace (prefix_same there.trace)

    all_is : length there.trace < events → take events all ≡ there.trace
    all_is short = ap (take events) (sym f.trace) ∙ take_all events there.trace (omega (arith, short))

    -- after the stretch the machine has emitted all of it
    stand_emits : (steps : ℕ) → f.place.steps ≤ steps → IsPrefix (take events all) (observed bound f.place events steps)
    stand_emits steps le = by (nat_le events (length there.trace)) refl where
      by : (b : Bool) → nat_le events (length there.trace) ≡ b →
          IsPrefix (take events all) (observed bound f.place events steps)
      by true is =
          subst (IsPrefix (take events all)) (sym (covered bound f.place events all there_prefix steps le
          (leb-true events (length there.trace) is))) (prefix_same (take events all))
      by false is =
          let short : length there.trace < events = leb-false events (length there.trace) is in
          subst (λ t. IsPrefix t (observed bound f.place events steps)) (sym (all_is short))
          (later_prefix bound f.place events steps le short)

    -- past it, in no more steps than there were turns, the run is one that is blamed
    stand_blamed : (steps : ℕ) → steps ≤ turns → f.place.steps < steps → length there.trace < events →
        IsBlamed (stopped_at events run.behaviour).end
    stand_blamed steps le less short = by run.behaviour.end refl where
      by : (end : RunEnd) → run.behaviour.end ≡ end → IsBlamed (stopped_at events run.behaviour).end
      by Ended is = absurd (subst IsStop is f.end)
      by (Blamed comp cause line) is =
          subst (λ r. IsBlamed r.end) (sym (unstopped events run.behaviour f.end
          (subst (λ t. length t < events) f.trace short))) (subst IsBlamed (sym is) tt)
      by TurnsOut is = absurd (omega (arith, less, le, f.spent is))
      by EventsOut is = absurd (subst IsStop is f.end)

    -- it emits nothing else up to there; what comes after a blame may be anything
    stand_back : (steps : ℕ) → steps ≤ turns →
        IsPrefix (observed bound f.place events steps) (take events all)
        ⊎ (IsBlamed (stopped_at events run.behaviour).end ×
        IsPrefix (take events all) (observed bound f.place events steps))
    stand_back steps le = by (nat_le steps f.place.steps) refl where
      past : f.place.steps < steps → (b : Bool) → nat_le events (length there.trace) ≡ b →
          IsPrefix (observed bound f.place events steps) (take events all)
          ⊎ (IsBlamed (stopped_at events run.behaviour).end ×
          IsPrefix (take events all) (observed bound f.place events steps))
      past less true is =
          inl (subst (λ t. IsPrefix t (take events all)) (sym (covered bound f.place events all there_prefix steps
          (omega (arith, less)) (leb-true events (length there.trace) is))) (prefix_same (take events all)))
      past less false is =
          inr (
            stand_blamed steps le less (leb-false events (length there.trace) is),
            stand_emits steps (omega (arith, less)),
          )

      by : (b : Bool) → nat_le steps f.place.steps ≡ b →
          IsPrefix (observed bound f.place events steps) (take events all)
          ⊎ (IsBlamed (stopped_at events run.behaviour).end ×
          IsPrefix (take events all) (observed bound f.place events steps))
      by true is = inl (uncovered bound f.place events all there_prefix steps (leb-true steps f.place.steps is))
      by false is =
          past (leb-false steps f.place.steps is) (nat_le events (length there.trace)) refl

  -- WHERE A STACK IS FULL
  module _ (bound turns : ℕ) (run : Run) (f : IsFull image inputs bound turns run) (events : ℕ) where
    abbrev stuck : MachineState
    stuck = f.place.reached

    -- all of it, or it stands trapped
    full_emits : (steps : ℕ) → f.place.steps < steps →
        (observed bound f.place events steps ≡ take events run.behaviour.trace)
        ⊎ ((length stuck.trace < events) ×
        (machine image inputs steps events ≡ record { state = stuck; stop = Trap Owner stuck.pc }))
    full_emits steps less = by (nat_le events (length stuck.trace)) refl where
      by : (b : Bool) → nat_le events (length stuck.trace) ≡ b →
          (observed bound f.place events steps ≡ take events run.behaviour.trace)
          ⊎ ((length stuck.trace < events) ×
          (machine image inputs steps events ≡ record { state = stuck; stop = Trap Owner stuck.pc }))
      by true is =
          inl (covered bound f.place events run.behaviour.trace f.trace steps (omega (arith, less))
          (leb-true events (length stuck.trace) is))
      by false is =
          let short : length stuck.trace < events = leb-false events (length stuck.trace) is in
          inr (short, trapped_is bound f.place events steps less short f.traps)

    full_back : (steps : ℕ) → IsPrefix (observed bound f.place events steps) (take events run.behaviour.trace)
    full_back steps = by (nat_lt f.place.steps steps) refl where
      past : (observed bound f.place events steps ≡ take events run.behaviour.trace)
          ⊎ ((length stuck.trace < events) ×
          (machine image inputs steps events ≡ record { state = stuck; stop = Trap Owner stuck.pc })) →
          IsPrefix (observed bound f.place events steps) (take events run.behaviour.trace)
      past (inl is) =
          subst (λ t. IsPrefix t (take events run.behaviour.trace)) (sym is)
          (prefix_same (take events run.behaviour.trace))
      past (inr there) =
          subst (λ r. IsPrefix r.state.trace (take events run.behaviour.trace)) (sym there.1)
          (prefix_taken events stuck.trace run.behaviour.trace f.trace (omega (arith, there.0)))

      by : (b : Bool) → nat_lt f.place.steps steps ≡ b →
          IsPrefix (observed bound f.place events steps) (take events run.behaviour.trace)
      by true is = past (full_emits steps (ltb-true f.place.steps steps is))
      by false is =
          uncovered bound f.place events run.behaviour.trace f.trace steps (ltb-false f.place.steps steps is)

    -- the run's depth at that moment
    full_deep : (one : Run) → (there : ExceedsStack one (length stuck.trace) stuck.active) →
        length stuck.trace < events → stack_size < depth_in one events stuck.active
    full_deep one there short =
        let made : List FrameChange = there.moment.made in
        let reached : depth_after stuck.active 0 made ≤
        deepest events stuck.active 0 (made ++ there.moment.prefix.more) =
        deepest_is_reached events stuck.active made there.moment.prefix.more
        (before_more (suc (length stuck.trace)) events (omega (arith, short)) made there.moment.before) in
        subst (λ changes. stack_size < deepest events stuck.active 0 changes) (sym there.moment.prefix.is)
        (omega (arith, there.deep, reached))

    full_traps : (one : Run) → ExceedsStack one (length stuck.trace) stuck.active →
        IsPrefix stuck.trace one.behaviour.trace → (steps : ℕ) → length stuck.trace < events →
        machine image inputs steps events ≡ record { state = stuck; stop = Trap Owner stuck.pc } →
        StackIsFull image (machine image inputs steps events) one events
    full_traps one exceeds trace steps short is =
        subst (λ r. StackIsFull image r one events) (sym is) (record {
          stop = refl;
          lacks = f.lacks;
          deep = full_deep one exceeds short;
          exceeds = exceeds;
          trace = subst (IsPrefix stuck.trace) (sym (trace_is events one.behaviour))
              (prefix_taken events stuck.trace one.behaviour.trace trace (omega (arith, short)));
        })

  -- ALL OUTCOMES
  module _ (bound turns : ℕ) (run : Run) where
    abbrev cut : ℕ → List Event
    cut events = (stopped_at events run.behaviour).trace

    abbrev seen : (steps events : ℕ) → List Event
    seen steps events = (machine image inputs steps events).state.trace

    as_cut : (events : ℕ) (trace : List Event) → IsPrefix (take events run.behaviour.trace) trace →
        IsPrefix (cut events) trace
    as_cut events trace = subst (λ t. IsPrefix t trace) (sym (trace_is events run.behaviour))

    to_cut : (events : ℕ) (trace : List Event) → IsPrefix trace (take events run.behaviour.trace) →
        IsPrefix trace (cut events)
    to_cut events trace = subst (IsPrefix trace) (sym (trace_is events run.behaviour))

    equal_cut : (events : ℕ) (trace : List Event) → trace ≡ take events run.behaviour.trace →
        IsPrefix (cut events) trace
    equal_cut events trace is =
        as_cut events trace (subst (IsPrefix (take events run.behaviour.trace)) (sym is)
        (prefix_same (take events run.behaviour.trace)))

    own_forward : Outcome image inputs bound turns run → (events : ℕ) →
        IsPrefix (cut events) (seen bound events) ⊎ StackIsFull image (machine image inputs bound events) run events
    own_forward (finishes f) events =
        inl (equal_cut events (seen bound events) (finish_is bound turns run f events bound f.place.within))
    own_forward (stands f) events =
        let within : f.place.steps < bound = f.place.within in
        inl (as_cut events (seen bound events) (stand_emits bound turns run f events bound (omega (arith, within))))
    own_forward (is_full f) events =
        ⊎_elim (λ is. inl (equal_cut events (seen bound events) is))
        (λ there. inr (full_traps bound turns run f events run f.exceeds f.trace bound there.0 there.1))
        (full_emits bound turns run f events bound f.place.within)

    own_trapped : Outcome image inputs bound turns run → (steps events : ℕ) → steps ≤ turns →
        IsTrap (machine image inputs steps events).stop →
        IsBlamedWithin (seen steps events) (stopped_at events run.behaviour)
        ⊎ StackIsFull image (machine image inputs steps events) run events
    own_trapped (finishes f) steps events le traps = absurd (finish_trapless bound turns run f events steps traps)
    own_trapped (stands f) steps events le traps =
        let past : IsPast bound f.place events steps = past_it bound f.place events steps traps in
        let more : f.place.steps < steps = past.more in
        inl (
          stand_blamed bound turns run f events steps le past.more past.short,
          as_cut events (seen steps events) (stand_emits bound turns run f events steps (omega (arith, more))),
        )
    own_trapped (is_full f) steps events le traps =
        let past : IsPast bound f.place events steps = past_it bound f.place events steps traps in
        inr (full_traps bound turns run f events run f.exceeds f.trace steps past.short
        (trapped_is bound f.place events steps past.more past.short f.traps))

    own_backward : Outcome image inputs bound turns run → (steps events : ℕ) → steps ≤ turns →
        IsPrefix (seen steps events) (cut events)
        ⊎ (IsBlamed (stopped_at events run.behaviour).end × IsPrefix (cut events) (seen steps events))
    own_backward (finishes f) steps events le =
        inl (to_cut events (seen steps events) (finish_back bound turns run f events steps))
    own_backward (stands f) steps events le =
        ⊎_elim (λ h. inl (to_cut events (seen steps events) h))
        (λ h. inr (h.0, as_cut events (seen steps events) h.1)) (stand_back bound turns run f events steps le)
    own_backward (is_full f) steps events le =
        inl (to_cut events (seen steps events) (full_back bound turns run f events steps))

  -- A RUN THAT IS BLAMED FOR ARITHMETIC, BESIDE ONE THAT GOES ON
  module _ (bound turns : ℕ) (one other : Run) (blame : IsBlamed one.behaviour.end)
      (trace : IsPrefix one.behaviour.trace other.behaviour.trace) (frames : IsPrefix one.frames other.frames)
      (late : AllFrom (length one.behaviour.trace) frames.more) where
    cuts : (events : ℕ) (observed : List Event) → IsPrefix (stopped_at events other.behaviour).trace observed →
        IsPrefix (stopped_at events one.behaviour).trace observed
    cuts events observed h =
        prefix_more (stopped_at events one.behaviour).trace (stopped_at events other.behaviour).trace observed
        (as_cut bound turns one events (stopped_at events other.behaviour).trace (to_cut bound turns other events
        (take events one.behaviour.trace) (take_prefixes events events one.behaviour.trace other.behaviour.trace
        (omega arith) trace))) h

    -- where the machine has emitted all of its events, and may emit more, the blame stops it
    blamed_there : (events : ℕ) (emitted : List Event) → length emitted < events →
        IsPrefix one.behaviour.trace emitted → IsBlamedWithin emitted (stopped_at events one.behaviour)
    blamed_there events emitted short prefix =
        let fewer : length one.behaviour.trace ≤ length emitted = prefix_long one.behaviour.trace emitted prefix in
        let whole : stopped_at events one.behaviour ≡ one.behaviour =
        unstopped events one.behaviour (blame_stops one.behaviour.end blame) (omega (arith, fewer, short)) in
        subst (IsBlamedWithin emitted) (sym whole) (blame, prefix)

    module _ (f : IsFull image inputs bound turns other) (steps events : ℕ) where
      abbrev fixed : MachineState
      fixed = f.place.reached

      blamed_trap : length fixed.trace < events →
          machine image inputs steps events ≡ record { state = fixed; stop = Trap Owner fixed.pc } →
          IsBlamedWithin (machine image inputs steps events).state.trace (stopped_at events one.behaviour)
          ⊎ StackIsFull image (machine image inputs steps events) one events
      blamed_trap short is = by (nat_le (length one.behaviour.trace) (length fixed.trace)) refl where
        by : (b : Bool) → nat_le (length one.behaviour.trace) (length fixed.trace) ≡ b →
            IsBlamedWithin (machine image inputs steps events).state.trace (stopped_at events one.behaviour)
            ⊎ StackIsFull image (machine image inputs steps events) one events
        by true b =
            let less : length one.behaviour.trace ≤ length fixed.trace =
            leb-true (length one.behaviour.trace) (length fixed.trace) b in
            inl (subst (λ r. IsBlamedWithin r.state.trace (stopped_at events one.behaviour)) (sym is)
            (blamed_there events fixed.trace short
            (shorter_first one.behaviour.trace fixed.trace other.behaviour.trace trace f.trace less)))
        by false b =
            let more : length fixed.trace < length one.behaviour.trace =
            leb-false (length one.behaviour.trace) (length fixed.trace) b in
            let at : Moment other (length fixed.trace) = f.exceeds.moment in
            let earlier : (prefix : IsPrefix at.made one.frames) × AllFrom (length fixed.trace) prefix.more =
            earlier_first (suc (length fixed.trace)) (length one.behaviour.trace) (length fixed.trace)
            (omega (arith, more)) at.made one.frames at.prefix.more frames.more (sym at.prefix.is ∙ frames.is)
            at.before late at.after in
            inr (full_traps bound turns other f events one
            (record {
              moment = record { made = at.made; prefix = earlier.0; before = at.before; after = earlier.1 };
              deep = f.exceeds.deep;
            })
            (shorter_first fixed.trace one.behaviour.trace other.behaviour.trace f.trace trace (omega (arith, more)))
            steps short is)

    blamed_forward : Outcome image inputs bound turns other → (events : ℕ) →
        IsPrefix (stopped_at events one.behaviour).trace (machine image inputs bound events).state.trace
        ⊎ StackIsFull image (machine image inputs bound events) one events
    blamed_forward (finishes f) events =
        inl (cuts events _ (equal_cut bound turns other events (machine image inputs bound events).state.trace
        (finish_is bound turns other f events bound f.place.within)))
    blamed_forward (stands f) events =
        let within : f.place.steps < bound = f.place.within in
        inl (cuts events _ (as_cut bound turns other events (machine image inputs bound events).state.trace
        (stand_emits bound turns other f events bound (omega (arith, within)))))
    blamed_forward (is_full f) events =
        ⊎_elim (λ is. inl (cuts events _ (equal_cut bound turns other events
        (machine image inputs bound events).state.trace is)))
        (λ there. ⊎_elim (λ h. inl h.1) (λ h. inr h) (blamed_trap f bound events there.0 there.1))
        (full_emits bound turns other f events bound f.place.within)

    blamed_trapped : Outcome image inputs bound turns other → (steps events : ℕ) →
        IsTrap (machine image inputs steps events).stop →
        IsBlamedWithin (machine image inputs steps events).state.trace (stopped_at events one.behaviour)
        ⊎ StackIsFull image (machine image inputs steps events) one events
    blamed_trapped (finishes f) steps events traps = absurd (finish_trapless bound turns other f events steps traps)
    blamed_trapped (stands f) steps events traps =
        let past : IsPast bound f.place events steps = past_it bound f.place events steps traps in
        let more : f.place.steps < steps = past.more in
        let here : IsBlamedWithin f.place.reached.trace (stopped_at events one.behaviour) =
        blamed_there events f.place.reached.trace past.short
        (subst (IsPrefix one.behaviour.trace) (sym f.trace) trace) in
        inl (
          here.0,
          prefix_more (stopped_at events one.behaviour).trace f.place.reached.trace
              (machine image inputs steps events).state.trace here.1
              (later_prefix bound f.place events steps (omega (arith, more)) past.short),
        )
    blamed_trapped (is_full f) steps events traps =
        let past : IsPast bound f.place events steps = past_it bound f.place events steps traps in
        blamed_trap f steps events past.short
        (trapped_is bound f.place events steps past.more past.short f.traps)

  module _ (bound turns : ℕ) (one other : Run) (agrees : AgreesInDepth one other)
      (outcome : Outcome image inputs bound turns other) where
    forward : RunsUntilBlame one other → (events : ℕ) →
        IsPrefix (stopped_at events one.behaviour).trace (machine image inputs bound events).state.trace
        ⊎ StackIsFull image (machine image inputs bound events) one events
    forward (same_run is) events =
        own_forward bound turns one (subst (Outcome image inputs bound turns) is outcome) events
    forward (blamed_run comp cause line ends soft prefix frames late) events =
        blamed_forward bound turns one other (subst IsBlamed (sym ends) tt) prefix frames late outcome events

    trapped : RunsUntilBlame one other → (steps events : ℕ) → steps ≤ turns →
        IsTrap (machine image inputs steps events).stop →
        IsBlamedWithin (machine image inputs steps events).state.trace (stopped_at events one.behaviour)
        ⊎ StackIsFull image (machine image inputs steps events) one events
    trapped (same_run is) steps events le traps =
        own_trapped bound turns one (subst (Outcome image inputs bound turns) is outcome) steps events le traps
    trapped (blamed_run comp cause line ends soft prefix frames late) steps events le traps =
        blamed_trapped bound turns one other (subst IsBlamed (sym ends) tt) prefix frames late outcome steps events
        traps

    module _ (steps events : ℕ) where
      abbrev timed : List Event
      timed = (machine image inputs steps events).state.trace

      -- its trace is a prefix of this run's, or this run is blamed and its trace is a prefix of the machine's
      abbrev After : SourceRun → Type 0
      After r = IsPrefix timed r.trace ⊎ (IsBlamed r.end × IsPrefix r.trace timed)

      sorted : (r : SourceRun) → IsBlamed r.end → (whole : List Event) → IsPrefix r.trace whole → IsPrefix timed whole →
          (b : Bool) → nat_le (length timed) (length r.trace) ≡ b → After r
      sorted r ends whole a h true is =
          inl (shorter_first timed r.trace whole h a (leb-true (length timed) (length r.trace) is))
      sorted r ends whole a h false is =
          let less : length r.trace < length timed = leb-false (length timed) (length r.trace) is in
          inr (ends, shorter_first r.trace timed whole a h (omega (arith, less)))

      following : After (stopped_at events other.behaviour) →
          AgreesUntilBlame (stopped_at events one.behaviour) (stopped_at events other.behaviour) →
          After (stopped_at events one.behaviour)
      following h (same is) = subst After is h
      following h (blamed comp cause line ends soft prefix) =
          let blame : IsBlamed (stopped_at events one.behaviour).end = subst IsBlamed (sym ends) tt in
          ⊎_elim (λ h. sorted (stopped_at events one.behaviour) blame (stopped_at events other.behaviour).trace prefix h
          (nat_le (length timed) (length (stopped_at events one.behaviour).trace)) refl)
          (λ h. inr (
            blame,
            prefix_more (stopped_at events one.behaviour).trace (stopped_at events other.behaviour).trace
                timed prefix h.1,
          )) h

    backward : (steps events : ℕ) → steps ≤ turns → After steps events (stopped_at events one.behaviour)
    backward steps events le =
        following steps events (own_backward bound turns other outcome steps events le) (agrees.behaviour events)

    pub emits : SimulatesRun image inputs bound turns one
    emits = record { forward = forward agrees.whole; backward = backward; trapped = trapped agrees.whole }

-- RUNS THAT AGREE UP TO LINES
pub blamed_too : (end other : RunEnd) → without_line end ≡ without_line other → IsBlamed other → IsBlamed end
blamed_too Ended (Blamed comp cause line) is h = cc is
blamed_too TurnsOut (Blamed comp cause line) is h = cc is
blamed_too EventsOut (Blamed comp cause line) is h = cc is
blamed_too (Blamed comp cause line) other is h = tt
blamed_too end Ended is h = absurd h
blamed_too end TurnsOut is h = absurd h
blamed_too end EventsOut is h = absurd h

module _ (image : ImageParts) (inputs : List ℕ) (bound turns : ℕ) (run other : Run) (agree : RunsAgree run other)
    (observed : SimulatesRun image inputs bound turns other) where
  exceeds_too : (at comp : ℕ) → ExceedsStack other at comp → ExceedsStack run at comp
  exceeds_too at comp there = record {
    moment = record {
      made = there.moment.made;
      prefix = record { more = there.moment.prefix.more; is = agree.frames ∙ there.moment.prefix.is };
      before = there.moment.before;
      after = there.moment.after;
    };
    deep = there.deep;
  }

  full_too : (events : ℕ) (its : MachineRun) → StackIsFull image its other events → StackIsFull image its run events
  full_too events its h = record {
    stop = h.stop;
    lacks = h.lacks;
    exceeds = exceeds_too (length its.state.trace) its.state.active h.exceeds;
    deep = subst (λ changes. stack_size < deepest events its.state.active 0 changes) (sym agree.frames) h.deep;
    trace = subst (IsPrefix its.state.trace) (sym (agree.behaviour events).trace) h.trace;
  }

  pub emits_too : SimulatesRun image inputs bound turns run
  emits_too = record {
    forward = λ events. ⊎_elim
        (λ h. inl (subst (λ t. IsPrefix t (machine image inputs bound events).state.trace)
        (sym (agree.behaviour events).trace) h))
        (λ h. inr (full_too events (machine image inputs bound events) h)) (observed.forward events);
    backward = λ steps events le. ⊎_elim
        (λ h. inl (subst (IsPrefix (machine image inputs steps events).state.trace) (sym (agree.behaviour events).trace)
        h))
        (λ h. inr (
          blamed_too (stopped_at events run.behaviour).end (stopped_at events other.behaviour).end
              (agree.behaviour events).end h.0,
          subst (λ t. IsPrefix t (machine image inputs steps events).state.trace) (sym (agree.behaviour events).trace)
              h.1,
        )) (observed.backward steps events le);
    trapped = λ steps events le traps. ⊎_elim
        (λ h. inl (
          blamed_too (stopped_at events run.behaviour).end (stopped_at events other.behaviour).end
              (agree.behaviour events).end h.0,
          subst (λ t. IsPrefix t (machine image inputs steps events).state.trace) (sym (agree.behaviour events).trace)
              h.1,
        ))
        (λ h. inr (full_too events (machine image inputs steps events) h)) (observed.trapped steps events le traps);
  }

pub outcomes_simulate : OutcomesSimulate
outcomes_simulate = record {
  emits = λ image inputs bound turns one other formed words agrees outcome.
      emits image inputs formed bound turns one other agrees outcome;
  along = λ image inputs bound turns run other agree observed. emits_too image inputs bound turns run other agree
      observed;
}
