-- The runs of a machine on two images that agree outside a set of compartments are apart.
use Rattle.sc_image.proofs.Common.{All, Bool, Call, End, Event, Goes, ImageParts, In, IsPrefix, IsSteadyState}
use Rattle.sc_image.proofs.Common.{IsWellFormed, IsWord, List, MachineRun, MachineState, None, Option, Out, Outcome}
use Rattle.sc_image.proofs.Common.{Ret, Some, StepsOut, Stop, Trap, TrapReason, Traps, [], ap, append-nil}
use Rattle.sc_image.proofs.Common.{append_assoc, ap₂, arith, false, if◌then◌else◌, inl, inr, refl, run, start, step}
use Rattle.sc_image.proofs.Common.{stopped, stops_or, subst, suc, sym, true, zero, zero-add, ℕ, ⊎_elim, ◌++◌, ◌+◌}
use Rattle.sc_image.proofs.Common.{◌∙◌, ◌∷◌, ◌≡◌, ◌≢◌, ◌⊎◌}
unfoldable use Rattle.sc_image.proofs.Common.{run_by}
use Rattle.std.proofs.lemmas.Bool.{cases_eq}
use Rattle.sc_image.proofs.Common.{after}
use Rattle.sc_event.specs.Standing.{performer}
use Rattle.sc_image.specs.Apart.{ActsNext, AgreeBut, AlikeBut, AreApart, BeginOtherwise, GoOn, IsOut, ItsOutOfSteps}
use Rattle.sc_image.specs.Apart.{OutOfSteps, PartAt, PartThere, RunsApart, StopBoth, next_outside, steps_outside}
use Rattle.sc_image.specs.AnyMachine.{IsolatingRunsApart, run_with}
use Rattle.sc_image.specs.Isolation.{AddsOneBy, IsLoud, IsQuiet, KeepsSteadyBy, Stepping}
use Rattle.sc_image.proofs.Reached.{steady_start}
use Rattle.sc_image.proofs.Stretches.{prefix_on, prefix_self}
use Rattle.sc_image.proofs.ApartSteps.{Pair, StepsAlike, both_loud, goes_outside, isolating_alike, machine_alike}
use Rattle.sc_image.proofs.ApartSteps.{next_steady, no_trap_here, no_trap_there, quiet_here, quiet_there, same_pc}
use Rattle.sc_image.proofs.ApartSteps.{same_reason}
use Rattle.sc_image.proofs.ApartStart.{start_alike}

-- Two events are the same or they differ.

same_list : (xs ys : List ℕ) → (xs ≡ ys) ⊎ (xs ≢ ys)
same_list [] [] = inl refl
same_list [] (y ∷ ys) = inr (λ same. cc same)
same_list (x ∷ xs) [] = inr (λ same. cc same)
same_list (x ∷ xs) (y ∷ ys) = ⊎_elim (λ first. ⊎_elim (λ rest. inl (ap₂ (λ z zs. z ∷ zs) first rest))
    (λ differ. inr (λ same. differ (cc same))) (same_list xs ys)) (λ differ. inr (λ same. differ (cc same)))
    (cases_eq x y)

by_list : (xs ys : List ℕ) (a b : Event) → (xs ≡ ys → a ≡ b) → (a ≡ b → xs ≡ ys) → (a ≡ b) ⊎ (a ≢ b)
by_list xs ys a b to from =
    ⊎_elim (λ same. inl (to same)) (λ differ. inr (λ same. differ (from same))) (same_list xs ys)

same_event : (a b : Event) → (a ≡ b) ⊎ (a ≢ b)
same_event (Call from to index args) (Call from' to' index' args') =
    by_list (from ∷ to ∷ index ∷ args) (from' ∷ to' ∷ index' ∷ args') _ _ (λ same. cc same) (λ same. cc same)
same_event (Ret from to None) (Ret from' to' None) =
    by_list (from ∷ to ∷ []) (from' ∷ to' ∷ []) _ _ (λ same. cc same) (λ same. cc same)
same_event (Ret from to (Some value)) (Ret from' to' (Some value')) =
    by_list (from ∷ to ∷ value ∷ []) (from' ∷ to' ∷ value' ∷ []) _ _ (λ same. cc same) (λ same. cc same)
same_event (Out comp value) (Out comp' value') =
    by_list (comp ∷ value ∷ []) (comp' ∷ value' ∷ []) _ _ (λ same. cc same) (λ same. cc same)
same_event (In comp value) (In comp' value') =
    by_list (comp ∷ value ∷ []) (comp' ∷ value' ∷ []) _ _ (λ same. cc same) (λ same. cc same)
same_event (End comp value) (End comp' value') =
    by_list (comp ∷ value ∷ []) (comp' ∷ value' ∷ []) _ _ (λ same. cc same) (λ same. cc same)
same_event a b = inr (λ same. cc same)

-- A step put before one run, or before both.

abbrev later_run : (ℕ → MachineRun) → ℕ → MachineRun
later_run of k = of (suc k)

-- whether a compartment is outside the set, as a number
abbrev one_outside : (ℕ → Bool) → ℕ → ℕ
one_outside set c = if set c then 0 else 1

module _ (set : ℕ → Bool) (one other : ImageParts) (run its_run : ℕ → MachineRun) (steps its_steps : ℕ) where
  both_on : (taken its_taken : ℕ) →
      GoOn set (later_run run) (later_run its_run) taken its_taken steps its_steps →
      GoOn set run its_run (suc taken) (suc its_taken) (suc steps) (suc its_steps)
  both_on taken its_taken (StopBoth same) = StopBoth same
  both_on taken its_taken (PartThere part) = PartThere part
  both_on taken its_taken (OutOfSteps is_out) =
      OutOfSteps (record { all = ap suc is_out.all; out = is_out.out; goes_on = is_out.goes_on })
  both_on taken its_taken (ItsOutOfSteps is_out) =
      ItsOutOfSteps (record { all = ap suc is_out.all; out = is_out.out; goes_on = is_out.goes_on })

  both_more : next_outside set (run 0) ≡ next_outside set (its_run 0) →
      AreApart set one other (later_run run) (later_run its_run) steps its_steps →
      AreApart set one other run its_run (suc steps) (suc its_steps)
  both_more first h = record {
    taken = suc h.taken;
    its_taken = suc h.its_taken;
    within = omega (arith, h.within);
    its_within = omega (arith, h.its_within);
    alike = h.alike;
    time = ap₂ (λ m n. m + n) first h.time;
    ends = both_on h.taken h.its_taken h.ends;
  }

  one_on : (taken its_taken : ℕ) → GoOn set (later_run run) its_run taken its_taken steps its_steps →
      GoOn set run its_run (suc taken) its_taken (suc steps) its_steps
  one_on taken its_taken (StopBoth same) = StopBoth same
  one_on taken its_taken (PartThere part) = PartThere part
  one_on taken its_taken (OutOfSteps is_out) =
      OutOfSteps (record { all = ap suc is_out.all; out = is_out.out; goes_on = is_out.goes_on })
  one_on taken its_taken (ItsOutOfSteps is_out) =
      ItsOutOfSteps (record { all = is_out.all; out = is_out.out; goes_on = is_out.goes_on })

  one_more : next_outside set (run 0) ≡ 0 → AreApart set one other (later_run run) its_run steps its_steps →
      AreApart set one other run its_run (suc steps) its_steps
  one_more none h = record {
    taken = suc h.taken;
    its_taken = h.its_taken;
    within = omega (arith, h.within);
    its_within = h.its_within;
    alike = h.alike;
    time = ap (λ n. n + steps_outside set (later_run run) h.taken) none ∙ zero-add _ ∙ h.time;
    ends = one_on h.taken h.its_taken h.ends;
  }

  its_on : (taken its_taken : ℕ) → GoOn set run (later_run its_run) taken its_taken steps its_steps →
      GoOn set run its_run taken (suc its_taken) steps (suc its_steps)
  its_on taken its_taken (StopBoth same) = StopBoth same
  its_on taken its_taken (PartThere part) = PartThere part
  its_on taken its_taken (OutOfSteps is_out) =
      OutOfSteps (record { all = is_out.all; out = is_out.out; goes_on = is_out.goes_on })
  its_on taken its_taken (ItsOutOfSteps is_out) =
      ItsOutOfSteps (record { all = ap suc is_out.all; out = is_out.out; goes_on = is_out.goes_on })

  its_more : next_outside set (its_run 0) ≡ 0 → AreApart set one other run (later_run its_run) steps its_steps →
      AreApart set one other run its_run steps (suc its_steps)
  its_more none h = record {
    taken = h.taken;
    its_taken = suc h.its_taken;
    within = h.within;
    its_within = omega (arith, h.its_within);
    alike = h.alike;
    time = h.time ∙ sym (ap (λ n. n + steps_outside set (later_run its_run) h.its_taken) none ∙ zero-add _);
    ends = its_on h.taken h.its_taken h.ends;
  }

  -- no step before
  at_once : (state its : MachineState) → (run 0).state ≡ state → (its_run 0).state ≡ its →
      AlikeBut set one other state its → GoOn set run its_run 0 0 steps its_steps →
      AreApart set one other run its_run steps its_steps
  at_once state its is its_is alike ends = record {
    taken = 0;
    its_taken = 0;
    within = omega arith;
    its_within = omega arith;
    alike = subst (λ s. AlikeBut set one other s (its_run 0).state) (sym is)
        (subst (AlikeBut set one other state) (sym its_is) alike);
    time = refl;
    ends = ends;
  }

-- One run.

module _ (stepping : Stepping) (image : ImageParts) (inputs : List ℕ) (events : ℕ) where
  abbrev runs : (steps : ℕ) → MachineState → MachineRun
  runs = run_with stepping image inputs events

  stopped_run : (n : ℕ) (state : MachineState) (stop : Stop) → stopped events state.trace ≡ Some stop →
      runs n state ≡ record { state = state; stop = stop }
  stopped_run zero state stop is = rw is refl
  stopped_run (suc n) state stop is = rw is refl

  out_run : (state : MachineState) → stopped events state.trace ≡ None →
      runs 0 state ≡ record { state = state; stop = StepsOut }
  out_run state early = rw early refl

  going_run : (n : ℕ) (state next : MachineState) → stopped events state.trace ≡ None →
      stepping image inputs state ≡ Goes next → runs (suc n) state ≡ runs n next
  going_run n state next early goes = rw (early, goes) refl

  trapped_run : (n : ℕ) (state : MachineState) (reason : TrapReason) → stopped events state.trace ≡ None →
      stepping image inputs state ≡ Traps reason →
      runs (suc n) state ≡ record { state = state; stop = Trap reason state.pc }
  trapped_run n state reason early traps = rw (early, traps) refl

-- a step adds its events at the end of the trace
one_adds : (state next : MachineState) → IsQuiet state next ⊎ IsLoud state next → IsPrefix state.trace next.trace
one_adds state next (inl quiet) = record { more = []; is = quiet.trace ∙ sym (append-nil state.trace) }
one_adds state next (inr loud) = record { more = loud.event ∷ []; is = loud.trace }

module _ (stepping : Stepping) (keeps : KeepsSteadyBy stepping) (one_event : AddsOneBy stepping) (image : ImageParts)
    (inputs : List ℕ) (formed : IsWellFormed image) (words : All IsWord inputs) (events : ℕ) where
  abbrev its_runs : (steps : ℕ) → MachineState → MachineRun
  its_runs = run_with stepping image inputs events

  none_adds : (state : MachineState) (early : Option Stop) →
      IsPrefix state.trace (stops_or early state (record { state = state; stop = StepsOut })).state.trace
  none_adds state None = prefix_self state.trace
  none_adds state (Some stop) = prefix_self state.trace

  adds_by : (n : ℕ) (state : MachineState) → IsSteadyState image state →
      ((next : MachineState) → IsSteadyState image next → IsPrefix next.trace (its_runs n next).state.trace) →
      (early : Option Stop) (outcome : Outcome) → stepping image inputs state ≡ outcome →
      IsPrefix state.trace (stops_or early state (after state.pc state outcome (its_runs n))).state.trace
  adds_by n state h later (Some stop) outcome is = prefix_self state.trace
  adds_by n state h later None (Traps reason) is = prefix_self state.trace
  adds_by n state h later None (Goes next) is =
      prefix_on state.trace next.trace (its_runs n next).state.trace
      (one_adds state next (one_event image inputs state next formed h is))
      (later next (next_steady stepping keeps image inputs formed words state next h is))

  run_adds : (n : ℕ) (state : MachineState) → IsSteadyState image state →
      IsPrefix state.trace (its_runs n state).state.trace
  run_adds zero state h = none_adds state (stopped events state.trace)
  run_adds (suc n) state h =
      adds_by n state h (run_adds n) (stopped events state.trace) (stepping image inputs state) refl

  module _ (state : MachineState) (h : IsSteadyState image state) (early : stopped events state.trace ≡ None) where
    none_is : (its_runs 0 state).state ≡ state
    none_is = ap (λ r. r.state) (out_run stepping image inputs events state early)

    next_counts : (set : ℕ → Bool) → next_outside set (its_runs 0 state) ≡ one_outside set state.active
    next_counts set = ap (next_outside set) (out_run stepping image inputs events state early)

    member_counts : (set : ℕ → Bool) → set state.active ≡ true → next_outside set (its_runs 0 state) ≡ 0
    member_counts set member = next_counts set ∙ rw member refl

    goes_later : (next : MachineState) → stepping image inputs state ≡ Goes next →
        ◌≡◌ {A = ℕ → MachineRun} (λ k. its_runs k next) (λ k. its_runs (suc k) state)
    goes_later next goes = sym (λ i k. going_run stepping image inputs events k state next early goes i)

    -- a trap ends the run
    trap_run : (n : ℕ) (reason : TrapReason) → stepping image inputs state ≡ Traps reason →
        its_runs (suc n) state ≡ record { state = state; stop = Trap reason state.pc }
    trap_run n reason traps = trapped_run stepping image inputs events n state reason early traps

    trap_trace : (n : ℕ) (reason : TrapReason) → stepping image inputs state ≡ Traps reason →
        (its_runs (suc n) state).state.trace ≡ state.trace ++ []
    trap_trace n reason traps = ap (λ r. r.state.trace) (trap_run n reason traps) ∙ sym (append-nil state.trace)

    -- what a run adds after a step
    pub later_adds : (n : ℕ) (next : MachineState) → stepping image inputs state ≡ Goes next →
        IsPrefix next.trace (its_runs n next).state.trace
    later_adds n next goes =
        run_adds n next (next_steady stepping keeps image inputs formed words state next h goes)

    -- an event is the first that the run adds
    loud_trace : (n : ℕ) (next : MachineState) (goes : stepping image inputs state ≡ Goes next) →
        (loud : IsLoud state next) →
        (its_runs (suc n) state).state.trace ≡ state.trace ++ loud.event ∷ (later_adds n next goes).more
    loud_trace n next goes loud =
        ap (λ r. r.state.trace) (going_run stepping image inputs events n state next early goes) ∙
        (later_adds n next goes).is ∙ ap (λ trace. trace ++ (later_adds n next goes).more) loud.trace ∙
        append_assoc state.trace (loud.event ∷ []) _

-- Both runs.

module _ (stepping : Stepping) (set : ℕ → Bool) (one other : ImageParts) (inputs : List ℕ) (events : ℕ)
    (formed : IsWellFormed one) (formed' : IsWellFormed other) (words : All IsWord inputs)
    (agree : AgreeBut set one other) (laws : StepsAlike stepping set one other) where
  abbrev here : MachineState → ℕ → MachineRun
  here state n = run_with stepping one inputs events n state

  abbrev there : MachineState → ℕ → MachineRun
  there its m = run_with stepping other inputs events m its

  abbrev Compared : (n m : ℕ) → (state its : MachineState) → Type 0
  Compared n m state its = AreApart set one other (here state) (there its) n m

  -- both runs have stopped, or they go on
  start_or : (n m : ℕ) (state its : MachineState) → Pair set one other state its → (early : Option Stop) →
      stopped events state.trace ≡ early → (stopped events state.trace ≡ None → Compared n m state its) →
      Compared n m state its
  start_or n m state its p None is go = go is
  start_or n m state its p (Some stop) is go =
      let its_is : stopped events its.trace ≡ Some stop = ap (stopped events) (sym p.alike.trace) ∙ is in
      let stops : (k : ℕ) → here state k ≡ record { state = state; stop = stop } =
      λ k. stopped_run stepping one inputs events k state stop is in
      let its_stops : (k : ℕ) → there its k ≡ record { state = its; stop = stop } =
      λ k. stopped_run stepping other inputs events k its stop its_is in
      at_once set one other (here state) (there its) n m state its (ap (λ r. r.state) (stops 0))
      (ap (λ r. r.state) (its_stops 0)) p.alike (StopBoth (record {
        state_is = ap (λ r. r.state) (stops n ∙ sym (stops 0));
        its_state_is = ap (λ r. r.state) (its_stops m ∙ sym (its_stops 0));
        stop = ap (λ r. r.stop) (stops n) ∙ sym (ap (λ r. r.stop) (its_stops m));
      }))

  module _ (state its : MachineState) (p : Pair set one other state its)
      (early : stopped events state.trace ≡ None) where
    its_early : stopped events its.trace ≡ None
    its_early = ap (stopped events) (sym p.alike.trace) ∙ early

    state_is : (here state 0).state ≡ state
    state_is = none_is stepping laws.steady laws.one_event one inputs formed words events state p.steady early

    its_state_is : (there its 0).state ≡ its
    its_state_is = none_is stepping laws.steady laws.one_event other inputs formed' words events its p.its_steady its_early

    -- a run is out of steps
    out_here : (m : ℕ) → Compared 0 m state its
    out_here m = at_once set one other (here state) (there its) 0 m state its state_is its_state_is p.alike
        (OutOfSteps (record {
          all = refl;
          out = ap (λ r. r.stop) (out_run stepping one inputs events state early);
          goes_on = subst (λ s. IsPrefix s.trace (there its m).state.trace) (sym its_state_is)
              (run_adds stepping laws.steady laws.one_event other inputs formed' words events m its p.its_steady);
        }))

    out_there : (n : ℕ) → Compared n 0 state its
    out_there n = at_once set one other (here state) (there its) n 0 state its state_is its_state_is p.alike
        (ItsOutOfSteps (record {
          all = refl;
          out = ap (λ r. r.stop) (out_run stepping other inputs events its its_early);
          goes_on = subst (λ s. IsPrefix s.trace (here state n).state.trace) (sym state_is)
              (run_adds stepping laws.steady laws.one_event one inputs formed words events n state p.steady);
        }))

    module _ (n m : ℕ)
        (both : (next its_next : MachineState) → Pair set one other next its_next → Compared n m next its_next)
        (first : (next : MachineState) → Pair set one other next its → Compared n (suc m) next its)
        (second : (its_next : MachineState) → Pair set one other state its_next → Compared (suc n) m state its_next)
      where
        go_both : (next its_next : MachineState) → stepping one inputs state ≡ Goes next →
            stepping other inputs its ≡ Goes its_next → Pair set one other next its_next →
            Compared (suc n) (suc m) state its
        go_both next its_next goes its_goes q =
            both_more set one other (here state) (there its) n m
            (next_counts stepping laws.steady laws.one_event one inputs formed words events state p.steady early set ∙ ap (one_outside set) p.alike.active ∙
            sym (next_counts stepping laws.steady laws.one_event other inputs formed' words events its p.its_steady its_early set))
            (subst (λ r. AreApart set one other r (λ k. there its (suc k)) n m)
            (goes_later stepping laws.steady laws.one_event one inputs formed words events state p.steady early next goes)
            (subst (λ r. AreApart set one other (here next) r n m)
            (goes_later stepping laws.steady laws.one_event other inputs formed' words events its p.its_steady its_early its_next its_goes) (both next its_next q)))

        go_first : (next : MachineState) → stepping one inputs state ≡ Goes next → set state.active ≡ true →
            Pair set one other next its → Compared (suc n) (suc m) state its
        go_first next goes member q =
            one_more set one other (here state) (there its) n (suc m)
            (member_counts stepping laws.steady laws.one_event one inputs formed words events state p.steady early set member)
            (subst (λ r. AreApart set one other r (there its) n (suc m))
            (goes_later stepping laws.steady laws.one_event one inputs formed words events state p.steady early next goes) (first next q))

        go_second : (its_next : MachineState) → stepping other inputs its ≡ Goes its_next → set its.active ≡ true →
            Pair set one other state its_next → Compared (suc n) (suc m) state its
        go_second its_next goes member q =
            its_more set one other (here state) (there its) (suc n) m
            (member_counts stepping laws.steady laws.one_event other inputs formed' words events its p.its_steady its_early set member)
            (subst (λ r. AreApart set one other (here state) r (suc n) m)
            (goes_later stepping laws.steady laws.one_event other inputs formed' words events its p.its_steady its_early its_next goes) (second its_next q))

        -- A step of a compartment outside the set.
        outside_by : (outcome its_outcome : Outcome) → stepping one inputs state ≡ outcome →
            stepping other inputs its ≡ its_outcome → set state.active ≡ false → Compared (suc n) (suc m) state its
        outside_by (Goes next) (Goes its_next) goes its_goes out = go_both next its_next goes its_goes
            (goes_outside stepping set one other inputs formed formed' words agree laws state its p out next its_next goes its_goes)
        outside_by (Goes next) (Traps its_reason) goes its_traps out =
            absurd (no_trap_there stepping set one other inputs formed formed' words agree laws state its p out next its_reason goes
            its_traps)
        outside_by (Traps reason) (Goes its_next) traps its_goes out =
            absurd (no_trap_here stepping set one other inputs formed formed' words agree laws state its p out reason its_next traps
            its_goes)
        outside_by (Traps reason) (Traps its_reason) traps its_traps out =
            let stops = trap_run stepping laws.steady laws.one_event one inputs formed words events state p.steady early n reason traps in
            let its_stops = trap_run stepping laws.steady laws.one_event other inputs formed' words events its p.its_steady its_early m its_reason its_traps in
            let pc = same_pc stepping set one other inputs formed formed' words agree laws state its p out in
            let same = same_reason stepping set one other inputs formed formed' words agree laws state its p out reason its_reason
            traps its_traps in
            at_once set one other (here state) (there its) (suc n) (suc m) state its state_is its_state_is p.alike
            (StopBoth (record {
              state_is = ap (λ r. r.state) stops ∙ sym state_is;
              its_state_is = ap (λ r. r.state) its_stops ∙ sym its_state_is;
              stop = ap (λ r. r.stop) stops ∙ ap₂ Trap same pc ∙ sym (ap (λ r. r.stop) its_stops);
            }))

        -- A step of a compartment of the set.
        module _ (member : set state.active ≡ true) where
          its_member : set its.active ≡ true
          its_member = ap set (sym p.alike.active) ∙ member

          part : (more its_more : List Event) →
              (here state (suc n)).state.trace ≡ state.trace ++ more →
              (there its (suc m)).state.trace ≡ its.trace ++ its_more →
              ActsNext state (here state (suc n)) more → ActsNext its (there its (suc m)) its_more →
              BeginOtherwise more its_more → Compared (suc n) (suc m) state its
          part more its_more trace its_trace acts its_acts apart =
              let at : PartAt set state its (here state (suc n)) (there its (suc m)) = record {
                member = member;
                more = more;
                its_more = its_more;
                trace = trace;
                its_trace = its_trace;
                acts = acts;
                its_acts = its_acts;
                apart = apart;
              } in
              at_once set one other (here state) (there its) (suc n) (suc m) state its state_is its_state_is p.alike
              (PartThere (subst (λ s. PartAt set s (there its 0).state (here state (suc n)) (there its (suc m)))
              (sym state_is) (subst (λ s. PartAt set state s (here state (suc n)) (there its (suc m)))
              (sym its_state_is) at)))

          -- what the run adds from an event on
          abbrev rest : (next : MachineState) → stepping one inputs state ≡ Goes next → List Event
          rest next goes = (later_adds stepping laws.steady laws.one_event one inputs formed words events state p.steady early n next goes).more

          abbrev its_rest : (its_next : MachineState) → stepping other inputs its ≡ Goes its_next → List Event
          its_rest its_next goes = (later_adds stepping laws.steady laws.one_event other inputs formed' words events its p.its_steady its_early m its_next goes).more

          trap_with_loud : (reason : TrapReason) (its_next : MachineState) → stepping one inputs state ≡ Traps reason →
              stepping other inputs its ≡ Goes its_next → IsLoud its its_next → Compared (suc n) (suc m) state its
          trap_with_loud reason its_next traps its_goes loud = part [] (loud.event ∷ its_rest its_next its_goes)
              (trap_trace stepping laws.steady laws.one_event one inputs formed words events state p.steady early n reason traps)
              (loud_trace stepping laws.steady laws.one_event other inputs formed' words events its p.its_steady its_early m its_next its_goes loud)
              (reason, trap_run stepping laws.steady laws.one_event one inputs formed words events state p.steady early n reason traps) loud.by tt

          loud_with_trap : (next : MachineState) (its_reason : TrapReason) → stepping one inputs state ≡ Goes next →
              IsLoud state next → stepping other inputs its ≡ Traps its_reason → Compared (suc n) (suc m) state its
          loud_with_trap next its_reason goes loud its_traps = part (loud.event ∷ rest next goes) []
              (loud_trace stepping laws.steady laws.one_event one inputs formed words events state p.steady early n next goes loud)
              (trap_trace stepping laws.steady laws.one_event other inputs formed' words events its p.its_steady its_early m its_reason its_traps) loud.by
              (its_reason, trap_run stepping laws.steady laws.one_event other inputs formed' words events its p.its_steady its_early m its_reason its_traps) tt

          loud_with_loud : (next its_next : MachineState) → stepping one inputs state ≡ Goes next →
              stepping other inputs its ≡ Goes its_next → (loud : IsLoud state next) →
              (its_loud : IsLoud its its_next) → Compared (suc n) (suc m) state its
          loud_with_loud next its_next goes its_goes loud its_loud = ⊎_elim
              (λ same. go_both next its_next goes its_goes
              (both_loud stepping set one other inputs formed formed' words agree laws state its p next its_next goes its_goes loud
              its_loud same (λ out. (let never : true ≡ false = sym member ∙ out in cc never))))
              (λ differ. part (loud.event ∷ rest next goes) (its_loud.event ∷ its_rest its_next its_goes)
              (loud_trace stepping laws.steady laws.one_event one inputs formed words events state p.steady early n next goes loud)
              (loud_trace stepping laws.steady laws.one_event other inputs formed' words events its p.its_steady its_early m its_next its_goes its_loud) loud.by its_loud.by
              differ) (same_event loud.event its_loud.event)

          -- the second run's step, where the first run's isn't quiet
          quiet_second : (its_next : MachineState) → stepping other inputs its ≡ Goes its_next → IsQuiet its its_next →
              Compared (suc n) (suc m) state its
          quiet_second its_next its_goes quiet = go_second its_next its_goes its_member
              (quiet_there stepping set one other inputs formed formed' words agree laws state its p its_next its_goes quiet
              its_member)

          with_loud : (next : MachineState) → stepping one inputs state ≡ Goes next → (loud : IsLoud state next) →
              (its_outcome : Outcome) → stepping other inputs its ≡ its_outcome →
              Compared (suc n) (suc m) state its
          with_loud next goes loud (Traps its_reason) its_traps =
              loud_with_trap next its_reason goes loud its_traps
          with_loud next goes loud (Goes its_next) its_goes =
              ⊎_elim (quiet_second its_next its_goes)
              (λ its_loud. loud_with_loud next its_next goes its_goes loud its_loud)
              (laws.one_event other inputs its its_next formed' p.its_steady its_goes)

          with_trap : (reason : TrapReason) → stepping one inputs state ≡ Traps reason → (its_outcome : Outcome) →
              stepping other inputs its ≡ its_outcome → Compared (suc n) (suc m) state its
          with_trap reason traps (Traps its_reason) its_traps = part [] []
              (trap_trace stepping laws.steady laws.one_event one inputs formed words events state p.steady early n reason traps)
              (trap_trace stepping laws.steady laws.one_event other inputs formed' words events its p.its_steady its_early m its_reason its_traps)
              (reason, trap_run stepping laws.steady laws.one_event one inputs formed words events state p.steady early n reason traps)
              (its_reason, trap_run stepping laws.steady laws.one_event other inputs formed' words events its p.its_steady its_early m its_reason its_traps) tt
          with_trap reason traps (Goes its_next) its_goes =
              ⊎_elim (quiet_second its_next its_goes)
              (λ its_loud. trap_with_loud reason its_next traps its_goes its_loud)
              (laws.one_event other inputs its its_next formed' p.its_steady its_goes)

          inside_by : (outcome : Outcome) → stepping one inputs state ≡ outcome → Compared (suc n) (suc m) state its
          inside_by (Traps reason) traps = with_trap reason traps _ refl
          inside_by (Goes next) goes =
              ⊎_elim (λ quiet. go_first next goes member
              (quiet_here stepping set one other inputs formed formed' words agree laws state its p next goes quiet member))
              (λ loud. with_loud next goes loud _ refl)
              (laws.one_event one inputs state next formed p.steady goes)

        going_by : (inside : Bool) → set state.active ≡ inside → Compared (suc n) (suc m) state its
        going_by true member = inside_by member _ refl
        going_by false out = outside_by _ _ refl refl out

  compared : (n m : ℕ) (state its : MachineState) → Pair set one other state its → Compared n m state its
  compared zero m state its p = start_or zero m state its p _ refl (λ early. out_here state its p early m)
  compared (suc n) zero state its p = start_or (suc n) zero state its p _ refl
      (λ early. out_there state its p early (suc n))
  compared (suc n) (suc m) state its p = start_or (suc n) (suc m) state its p _ refl
      (λ early. going_by state its p early n m (λ next its_next q. compared n m next its_next q)
      (λ next q. compared n (suc m) next its q) (λ its_next q. compared (suc n) m state its_next q) _ refl)

-- The machine of images runs as its steps say.
same_run : (image : ImageParts) (inputs : List ℕ) (events n : ℕ) (state : MachineState) →
    run_with step image inputs events n state ≡ run image inputs events n state
unfolding run_by
same_run image inputs events zero state = refl
same_run image inputs events (suc n) state = λ i. stops_or (stopped events state.trace) state
    (after state.pc state (step image inputs state) (λ next. same_run image inputs events n next i))

same_runs : (image : ImageParts) (inputs : List ℕ) (events : ℕ) (state : MachineState) →
    ◌≡◌ {A = ℕ → MachineRun} (λ n. run_with step image inputs events n state) (λ n. run image inputs events n state)
same_runs image inputs events state = λ i n. same_run image inputs events n state i

pub runs_apart : RunsApart
runs_apart set one other inputs steps its_steps events formed formed' words agree =
    let laws = machine_alike set one other formed formed' agree in
    let apart = compared step set one other inputs events formed formed' words agree laws steps its_steps (start one)
    (start other) (record {
      alike = start_alike set one other formed formed' agree;
      steady = steady_start one formed;
      its_steady = steady_start other formed';
    }) in
    subst (λ r. AreApart set one other r (λ n. run other inputs events n (start other)) steps its_steps)
    (same_runs one inputs events (start one))
    (subst (λ r. AreApart set one other (λ n. run_with step one inputs events n (start one)) r steps its_steps)
    (same_runs other inputs events (start other)) apart)

-- So do the runs of any machine that isolates compartments.
pub isolating_runs_apart : IsolatingRunsApart
isolating_runs_apart stepping set one other inputs state its steps its_steps events isolating formed formed' words agree
    exports steady its_steady alike =
    compared stepping set one other inputs events formed formed' words agree
    (isolating_alike stepping set one other isolating formed formed' exports) steps its_steps state its
    (record { alike = alike; steady = steady; its_steady = its_steady })
