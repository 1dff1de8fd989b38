-- One step of a machine on two images that agree outside a set of compartments, from two states that are alike there.
use Rattle.sc_image.proofs.Common.{Adds, All, Bool, Call, End, Entered, Event, Goes, ImageParts, In, IsSteadyState}
use Rattle.sc_image.proofs.Common.{IsWellFormed, IsWord, List, LooksSame, MachineState, Out, Outcome, Own, Point, Ret}
use Rattle.sc_image.proofs.Common.{Running, Some, TrapReason, Traps, [], activates, after_outcome, ap, ap₂, drop}
use Rattle.sc_image.proofs.Common.{drop-append_seam, drop-length, emits_entry, entered_export, eqb-true, exported_by}
use Rattle.sc_image.proofs.Common.{false, gate, inl, input_at, inputs_in, inr, leaves, length, list_any}
use Rattle.sc_image.proofs.Common.{observation_of, open_calls, own, ra, refl, slice_get, sp, step, subst, sym, true}
use Rattle.sc_image.proofs.Common.{written, ℕ, ⊎_elim, ◌++◌, ◌||◌, ◌∙◌, ◌∷◌, ◌≡◌, ◌≢◌, ◌⊎◌}
use Rattle.std.proofs.lemmas.Bool.{cases_eq, false≢true}
use Rattle.sc_image.specs.Apart.{AgreeBut, AlikeBut}
use Rattle.sc_image.specs.Isolation.{AddsOneBy, EntersByEventBy, FollowsFromOwnBy, GoesOnSameBy, IsIsolating, IsLoud}
use Rattle.sc_image.specs.Isolation.{IsQuiet, KeepsSteadyBy, LeavesOthersBy, Stepping, Stops, active_after}
use Rattle.sc_image.proofs.Reached.{step_steady}
use Rattle.sc_image.proofs.StepKinds.{HasEntry, Kind, adds_one, next_kind}
use Rattle.sc_image.proofs.Isolation.{follows_from_own, leaves_others, running_of}
use Rattle.sc_image.proofs.Enters.{entered, entry_is, entry_of, regs_by, step_enters, words_of}

-- what is observed of a step
seen_quiet : (state next : MachineState) → IsQuiet state next → observation_of state (Goes next) ≡ Adds []
seen_quiet state next quiet =
    ap (λ trace. Adds (drop (length state.trace) trace)) quiet.trace ∙ ap Adds (drop-length state.trace)

seen_event : (state next : MachineState) (event : Event) → next.trace ≡ state.trace ++ event ∷ [] →
    observation_of state (Goes next) ≡ Adds (event ∷ [])
seen_event state next event trace =
    ap (λ t. Adds (drop (length state.trace) t)) trace ∙ ap Adds (drop-append_seam state.trace _)

seen_loud : (state next : MachineState) → (loud : IsLoud state next) →
    observation_of state (Goes next) ≡ Adds (loud.event ∷ [])
seen_loud state next loud = seen_event state next loud.event loud.trace

-- What runs of two images ask of a machine's steps.
pub record StepsAlike (stepping : Stepping) (set : ℕ → Bool) (one other : ImageParts) : Type 0 where
  pub steady : KeepsSteadyBy stepping
  pub one_event : AddsOneBy stepping
  pub leaves : LeavesOthersBy stepping
  pub follows : FollowsFromOwnBy stepping
  -- both enter a compartment outside the set, by the same event
  pub enters : (inputs : List ℕ) (state its next its_next : MachineState) (event : Event) (d : ℕ) → set d ≡ false →
      IsSteadyState one state → IsSteadyState other its → state.active ≢ d → its.active ≢ d →
      stepping one inputs state ≡ Goes next → stepping other inputs its ≡ Goes its_next →
      next.trace ≡ state.trace ++ event ∷ [] → its_next.trace ≡ its.trace ++ event ∷ [] →
      activates d event ≡ true → own one state d ≡ own other its d → own one next d ≡ own other its_next d

-- One image.

-- a compartment that isn't active and that the events of a step don't enter
stays : (stepping : Stepping) → LeavesOthersBy stepping → (image : ImageParts) (inputs : List ℕ) → IsWellFormed image →
    (state next : MachineState) → IsSteadyState image state → stepping image inputs state ≡ Goes next → (d : ℕ) →
    state.active ≢ d → (events : List Event) → observation_of state (Goes next) ≡ Adds events →
    list_any (activates d) events ≡ false → own image next d ≡ own image state d
stays stepping leaves image inputs formed state next h goes d differ events seen none =
    let silent : emits_entry d (observation_of state (stepping image inputs state)) ≡ false =
    ap (λ outcome. emits_entry d (observation_of state outcome)) goes ∙ ap (emits_entry d) seen ∙ none in
    sym (ap (λ outcome. own image (after_outcome state outcome) d) goes) ∙
    leaves image inputs state d formed h (λ same. differ (sym same)) silent

pub next_steady : (stepping : Stepping) → KeepsSteadyBy stepping → (image : ImageParts) (inputs : List ℕ) →
    IsWellFormed image → All IsWord inputs → (state next : MachineState) → IsSteadyState image state →
    stepping image inputs state ≡ Goes next → IsSteadyState image next
next_steady stepping keeps image inputs formed words state next h goes =
    subst (λ outcome. IsSteadyState image (after_outcome state outcome)) goes
    (keeps image inputs state formed words h)

-- The machine of images.

-- a compartment that a call or a return of the machine makes active
enters_own : (image : ImageParts) (inputs : List ℕ) → IsWellFormed image → (state next : MachineState) →
    IsSteadyState image state → step image inputs state ≡ Goes next → (d : ℕ) → state.active ≢ d → next.active ≡ d →
    (event : Event) → next.trace ≡ state.trace ++ event ∷ [] →
    own image next d ≡ entered (exported_by image d) (own image state d) event
enters_own image inputs formed state next h goes d differ =
    subst (λ outcome. (after_outcome state outcome).active ≡ d → (event : Event) →
    (after_outcome state outcome).trace ≡ state.trace ++ event ∷ [] →
    own image (after_outcome state outcome) d ≡ entered (exported_by image d) (own image state d) event) goes
    (step_enters image inputs state d formed h differ)

-- What is entered depends on the exports by their entries and by how many words they take, both of which the two images
-- have in common where the call is the same.
entered_same : (one other : ImageParts) (d : ℕ) (before : Own) (event : Event) →
    ((to address : ℕ) → entered_export one to address ≡ entered_export other to address) → active_after event ≡ d →
    HasEntry one event → HasEntry other event →
    entered (exported_by one d) before event ≡ entered (exported_by other d) before event
entered_same one other d before (Call from to index args) entries active entry its_entry =
    let words : words_of (exported_by one to) index ≡ words_of (exported_by other to) index =
    sym entry.2 ∙ its_entry.2 in
    let start : entry_of (exported_by one to) index ≡ entry_of (exported_by other to) index =
    entry_is one to entry.0 index entry.1 ∙
    sym (entry_is other to entry.0 index (sym (entries to entry.0) ∙ entry.1)) in
    subst (λ c. entered (exported_by one c) before (Call from to index args) ≡
    entered (exported_by other c) before (Call from to index args)) active
    (λ i. record {
      bytes = before.bytes;
      zone = before.zone;
      saved = before.saved;
      calls = Entered before.saved ∷ before.calls;
      running =
          Some (record {
            regs = written (written (regs_by (words i) args) ra gate) sp before.saved;
            pc = start i;
          });
    })
entered_same one other d before (Ret from to value) entries active entry its_entry = refl
entered_same one other d before (Out comp value) entries active entry its_entry = refl
entered_same one other d before (In comp value) entries active entry its_entry = refl
entered_same one other d before (End comp value) entries active entry its_entry = refl

activated : (d : ℕ) (event : Event) → activates d event ≡ true → active_after event ≡ d
activated d (Call from to index args) is = eqb-true to d is
activated d (Ret from to value) is = eqb-true to d is
activated d (Out comp value) is = absurd (false≢true is)
activated d (In comp value) is = absurd (false≢true is)
activated d (End comp value) is = absurd (false≢true is)

kind_of : (image : ImageParts) (state next : MachineState) (event : Event) → Kind image state next →
    next.trace ≡ state.trace ++ event ∷ [] → (next.active ≡ active_after event) × HasEntry image event
kind_of image state next event (inl quiet) trace =
    let never : Adds [] ≡ Adds (event ∷ []) = sym (seen_quiet state next quiet) ∙ seen_event state next event trace in
    cc never
kind_of image state next event (inr loud) trace =
    let events : Adds (loud.0.event ∷ []) ≡ Adds (event ∷ []) =
    sym (seen_loud state next loud.0) ∙ seen_event state next event trace in
    let same : loud.0.event ≡ event = cc events in
    (loud.0.active ∙ ap active_after same, subst (HasEntry image) same loud.1)

pub machine_alike : (set : ℕ → Bool) (one other : ImageParts) → IsWellFormed one → IsWellFormed other →
    AgreeBut set one other → StepsAlike step set one other
machine_alike set one other formed formed' agree = record {
  steady = step_steady;
  one_event = adds_one;
  leaves = leaves_others;
  follows = follows_from_own;
  enters = λ inputs state its next its_next event d out h its_h differ its_differ goes its_goes trace its_trace is same.
      let here = kind_of one state next event (next_kind one inputs formed state h next goes) trace in
      let there = kind_of other its its_next event (next_kind other inputs formed' its its_h its_next its_goes)
      its_trace in
      let now = activated d event is in
      enters_own one inputs formed state next h goes d differ (here.0 ∙ now) event trace ∙
      ap (λ before. entered (exported_by one d) before event) same ∙
      entered_same one other d (own other its d) event (agree.others d out).entries now here.1 there.1 ∙
      sym (enters_own other inputs formed' its its_next its_h its_goes d its_differ (there.0 ∙ now) event its_trace);
}

-- Any machine that isolates compartments, where those outside the set offer the same functions.

enters_by : (stepping : Stepping) (enters : EntersByEventBy stepping) (image : ImageParts) (inputs : List ℕ) →
    IsWellFormed image → (state next : MachineState) → IsSteadyState image state →
    stepping image inputs state ≡ Goes next → (d : ℕ) → state.active ≢ d → (event : Event) →
    next.trace ≡ state.trace ++ event ∷ [] → activates d event ≡ true →
    own image next d ≡ (enters d).0 (exported_by image d) (own image state d) event
enters_by stepping enters image inputs formed state next h goes d differ event trace is =
    sym (ap (λ outcome. own image (after_outcome state outcome) d) goes) ∙
    (enters d).1 image inputs state event formed h (λ same. differ (sym same))
    (ap (observation_of state) goes ∙ seen_event state next event trace) is

pub isolating_alike : (stepping : Stepping) (set : ℕ → Bool) (one other : ImageParts) → IsIsolating stepping →
    IsWellFormed one → IsWellFormed other →
    ((c : ℕ) → set c ≡ false → exported_by one c ≡ exported_by other c) → StepsAlike stepping set one other
isolating_alike stepping set one other isolating formed formed' exports = record {
  steady = isolating.steady;
  one_event = isolating.one_event;
  leaves = isolating.others;
  follows = isolating.follows;
  enters = λ inputs state its next its_next event d out h its_h differ its_differ goes its_goes trace its_trace is same.
      enters_by stepping isolating.enters one inputs formed state next h goes d differ event trace is ∙
      ap₂ (λ offered before. (isolating.enters d).0 offered before event) (exports d out) same ∙
      sym (enters_by stepping isolating.enters other inputs formed' its its_next its_h its_goes d its_differ event
      its_trace is);
}

-- Two states, one of each image.

-- steady states that are alike outside the set
pub record Pair (set : ℕ → Bool) (one other : ImageParts) (state its : MachineState) : Type 0 where
  pub alike : AlikeBut set one other state its
  pub steady : IsSteadyState one state
  pub its_steady : IsSteadyState other its

member_differs : (set : ℕ → Bool) (c d : ℕ) → set c ≡ true → set d ≡ false → c ≢ d
member_differs set c d is out same = let never : true ≡ false = sym is ∙ ap set same ∙ out in cc never

-- no event of a list of one enters
alone : (b : Bool) → b ≡ false → (b || false) ≡ false
alone true is = is
alone false is = refl

abbrev point_at : ImageParts → List ℕ → MachineState → Point
point_at image inputs state = record { image = image; inputs = inputs; state = state }

module _ (stepping : Stepping) (set : ℕ → Bool) (one other : ImageParts) (inputs : List ℕ) (formed : IsWellFormed one)
    (formed' : IsWellFormed other) (words : All IsWord inputs) (agree : AgreeBut set one other)
    (laws : StepsAlike stepping set one other) (state its : MachineState) (p : Pair set one other state its) where
  stays_here : (next : MachineState) → stepping one inputs state ≡ Goes next → (d : ℕ) → state.active ≢ d →
      (events : List Event) → observation_of state (Goes next) ≡ Adds events →
      list_any (activates d) events ≡ false → own one next d ≡ own one state d
  stays_here next goes = stays stepping laws.leaves one inputs formed state next p.steady goes

  stays_there : (next : MachineState) → stepping other inputs its ≡ Goes next → (d : ℕ) → its.active ≢ d →
      (events : List Event) → observation_of its (Goes next) ≡ Adds events →
      list_any (activates d) events ≡ false → own other next d ≡ own other its d
  stays_there next goes = stays stepping laws.leaves other inputs formed' its next p.its_steady goes

  steady_here : (next : MachineState) → stepping one inputs state ≡ Goes next → IsSteadyState one next
  steady_here next goes = next_steady stepping laws.steady one inputs formed words state next p.steady goes

  steady_there : (next : MachineState) → stepping other inputs its ≡ Goes next → IsSteadyState other next
  steady_there next goes = next_steady stepping laws.steady other inputs formed' words its next p.its_steady goes

  -- A quiet step of a compartment of the set, in one of the images.
  pub quiet_here : (next : MachineState) → stepping one inputs state ≡ Goes next → IsQuiet state next →
      set state.active ≡ true → Pair set one other next its
  quiet_here next goes quiet member = record {
    alike = record {
      trace = quiet.trace ∙ p.alike.trace;
      active = quiet.active ∙ p.alike.active;
      others = λ d out.
          stays_here next goes d (member_differs set state.active d member out) [] (seen_quiet state next quiet) refl ∙
          p.alike.others d out;
    };
    steady = steady_here next goes;
    its_steady = p.its_steady;
  }

  pub quiet_there : (next : MachineState) → stepping other inputs its ≡ Goes next → IsQuiet its next →
      set its.active ≡ true → Pair set one other state next
  quiet_there next goes quiet member = record {
    alike = record {
      trace = p.alike.trace ∙ sym quiet.trace;
      active = p.alike.active ∙ sym quiet.active;
      others = λ d out.
          p.alike.others d out ∙ sym (stays_there next goes d (member_differs set its.active d member out) []
          (seen_quiet its next quiet) refl);
    };
    steady = p.steady;
    its_steady = steady_there next goes;
  }

  -- A step in both.
  module _ (next its_next : MachineState) (goes : stepping one inputs state ≡ Goes next)
      (its_goes : stepping other inputs its ≡ Goes its_next) where
    stays_both : (d : ℕ) → set d ≡ false → state.active ≢ d → (events its_events : List Event) →
        observation_of state (Goes next) ≡ Adds events → observation_of its (Goes its_next) ≡ Adds its_events →
        list_any (activates d) events ≡ false → list_any (activates d) its_events ≡ false →
        own one next d ≡ own other its_next d
    stays_both d out differ events its_events seen its_seen none its_none =
        stays_here next goes d differ events seen none ∙ p.alike.others d out ∙
        sym (stays_there its_next its_goes d (λ same. differ (p.alike.active ∙ same)) its_events its_seen its_none)

    both_alike : next.trace ≡ its_next.trace → next.active ≡ its_next.active →
        (set state.active ≡ false → own one next state.active ≡ own other its_next state.active) →
        ((d : ℕ) → set d ≡ false → state.active ≢ d → own one next d ≡ own other its_next d) →
        Pair set one other next its_next
    both_alike trace active mine inactive = record {
      alike = record {
        trace = trace;
        active = active;
        others = λ d out. ⊎_elim
            (λ same. subst (λ c. set c ≡ false → own one next c ≡ own other its_next c) same mine out)
            (λ differ. inactive d out differ) (cases_eq state.active d);
      };
      steady = steady_here next goes;
      its_steady = steady_there its_next its_goes;
    }

    both_quiet : IsQuiet state next → IsQuiet its its_next →
        (set state.active ≡ false → own one next state.active ≡ own other its_next state.active) →
        Pair set one other next its_next
    both_quiet quiet its_quiet mine =
        both_alike (quiet.trace ∙ p.alike.trace ∙ sym its_quiet.trace)
        (quiet.active ∙ p.alike.active ∙ sym its_quiet.active) mine
        (λ d out differ. stays_both d out differ [] [] (seen_quiet state next quiet) (seen_quiet its its_next its_quiet)
        refl refl)

    pub both_loud : (loud : IsLoud state next) → (its_loud : IsLoud its its_next) → loud.event ≡ its_loud.event →
        (set state.active ≡ false → own one next state.active ≡ own other its_next state.active) →
        Pair set one other next its_next
    both_loud loud its_loud same mine =
        both_alike (loud.trace ∙ ap₂ (λ trace event. trace ++ event ∷ []) p.alike.trace same ∙ sym its_loud.trace)
        (loud.active ∙ ap active_after same ∙ sym its_loud.active) mine
        (λ d out differ. by_entry d out differ (activates d loud.event) refl)
      where
        by_entry : (d : ℕ) → set d ≡ false → state.active ≢ d → (entry : Bool) → activates d loud.event ≡ entry →
            own one next d ≡ own other its_next d
        by_entry d out differ true is =
            laws.enters inputs state its next its_next loud.event d out p.steady p.its_steady differ
            (λ e. differ (p.alike.active ∙ e)) goes its_goes loud.trace
            (its_loud.trace ∙ ap (λ event. its.trace ++ event ∷ []) (sym same)) is (p.alike.others d out)
        by_entry d out differ false is =
            let its_is : activates d its_loud.event ≡ false = ap (activates d) (sym same) ∙ is in
            stays_both d out differ (loud.event ∷ []) (its_loud.event ∷ []) (seen_loud state next loud)
            (seen_loud its its_next its_loud) (alone (activates d loud.event) is)
            (alone (activates d its_loud.event) its_is)

  -- A step of a compartment outside the set: it does the same in both.
  module _ (out : set state.active ≡ false) where
    abbrev here : Point
    here = point_at one inputs state

    abbrev there : Point
    there = point_at other inputs its

    looks_same : LooksSame state.active here there
    looks_same = record {
      one_runs = record { formed = formed; inputs = words; steady = p.steady; active = refl };
      other_runs = record { formed = formed'; inputs = words; steady = p.its_steady; active = sym p.alike.active };
      images = agree.others state.active out;
      own_parts = p.alike.others state.active out;
      call = ap (λ calls. slice_get calls 0)
          (p.steady.calls ∙ ap open_calls p.alike.trace ∙ sym p.its_steady.calls);
      input = ap (input_at inputs) (p.steady.input ∙ ap inputs_in p.alike.trace ∙ sym p.its_steady.input);
    }

    goes_on_same : GoesOnSameBy stepping state.active here there
    goes_on_same = (laws.follows state.active here there 0 looks_same).1 tt

    pub same_pc : state.pc ≡ its.pc
    same_pc =
        let c = state.active in
        let mine : Running = record { regs = state.regs; pc = state.pc } in
        let its_own : Running = record { regs = its.regs; pc = its.pc } in
        let runs : Some mine ≡ Some its_own =
        sym (running_of c state.active mine refl) ∙ ap (λ parts. parts.running) (p.alike.others c out) ∙
        running_of c its.active its_own (sym p.alike.active) in
        let same : mine ≡ its_own = cc runs in
        ap (λ running. running.pc) same

    -- what is observed is the same
    seen_same : (outcome its_outcome : Outcome) → stepping one inputs state ≡ outcome →
        stepping other inputs its ≡ its_outcome → observation_of state outcome ≡ observation_of its its_outcome
    seen_same outcome its_outcome is its_is =
        sym (ap (observation_of state) is) ∙ goes_on_same.next ∙ ap (observation_of its) its_is

    pub same_reason : (reason its_reason : TrapReason) → stepping one inputs state ≡ Traps reason →
        stepping other inputs its ≡ Traps its_reason → reason ≡ its_reason
    same_reason reason its_reason traps its_traps =
        let seen : Stops reason ≡ Stops its_reason = seen_same _ _ traps its_traps in cc seen

    pub no_trap_here : (reason : TrapReason) (its_next : MachineState) → stepping one inputs state ≡ Traps reason →
        stepping other inputs its ≡ Goes its_next → ⊥
    no_trap_here reason its_next traps goes = let seen = seen_same _ _ traps goes in cc seen

    pub no_trap_there : (next : MachineState) (its_reason : TrapReason) → stepping one inputs state ≡ Goes next →
        stepping other inputs its ≡ Traps its_reason → ⊥
    no_trap_there next its_reason goes traps = let seen = seen_same _ _ goes traps in cc seen

    pub goes_outside : (next its_next : MachineState) → stepping one inputs state ≡ Goes next →
        stepping other inputs its ≡ Goes its_next → Pair set one other next its_next
    goes_outside next its_next goes its_goes =
        by_kind (laws.one_event one inputs state next formed p.steady goes)
        (laws.one_event other inputs its its_next formed' p.its_steady its_goes)
      where
        seen : observation_of state (Goes next) ≡ observation_of its (Goes its_next)
        seen = seen_same _ _ goes its_goes

        mine : set state.active ≡ false → own one next state.active ≡ own other its_next state.active
        mine still =
            sym (ap (λ outcome. own one (after_outcome state outcome) state.active) goes) ∙ goes_on_same.later_parts ∙
            ap (λ outcome. own other (after_outcome its outcome) state.active) its_goes

        by_kind : IsQuiet state next ⊎ IsLoud state next → IsQuiet its its_next ⊎ IsLoud its its_next →
            Pair set one other next its_next
        by_kind (inl quiet) (inl its_quiet) = both_quiet next its_next goes its_goes quiet its_quiet mine
        by_kind (inl quiet) (inr its_loud) =
            let never = sym (seen_quiet state next quiet) ∙ seen ∙ seen_loud its its_next its_loud in cc never
        by_kind (inr loud) (inl its_quiet) =
            let never = sym (seen_loud state next loud) ∙ seen ∙ seen_quiet its its_next its_quiet in cc never
        by_kind (inr loud) (inr its_loud) =
            let events = sym (seen_loud state next loud) ∙ seen ∙ seen_loud its its_next its_loud in
            both_loud next its_next goes its_goes loud its_loud (cc events) mine
