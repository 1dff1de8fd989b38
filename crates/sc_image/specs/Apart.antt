-- What a set of compartments gives away: laws of whole runs of two images that may differ inside the set.
use Rattle.sc_base.specs.Prelude.{IsPrefix}
use Rattle.sc_base.specs.Word.{IsWord}
use Rattle.sc_event.specs.Standing.{performer}
use Rattle.sc_image.specs.Common.{Event, Stop, StepsOut, Trap, TrapReason}
use Rattle.std.specs.Prelude.{◌≡◌, ◌≢◌, ◌⊎◌, ℕ, zero, suc, ◌+◌, ◌≤◌, nat_eq, Bool, true, false, List, [], ◌∷◌, ◌++◌}
use Rattle.std.specs.Prelude.{length, slice_get, All, if◌then◌else◌}
use Rattle.sc_image.specs.declared.parts.CompPart.{CompPart}
use Rattle.sc_image.specs.declared.parts.ImageParts.{ImageParts}
use Rattle.sc_image.specs.Calls.{exported_by}
use Rattle.sc_image.specs.Layout.{initial_globals}
use Rattle.sc_image.specs.WellFormed.{IsWellFormed}
use Rattle.sc_image.specs.State.{MachineState}
use Rattle.sc_image.specs.Machine.{MachineRun, machine}
use Rattle.sc_image.specs.Own.{own}
use Rattle.sc_image.specs.Isolation.{AgreeFor}

-- The two images. A set of compartments is a test of their numbers.

-- Two images that agree in what a run asks of the compartments outside a set. The compartments inside the set may
-- differ in everything but two things: the addresses at which their exports begin, and the number of words that an
-- export takes if a compartment outside may call it.
pub record AgreeBut (set : ℕ → Bool) (one other : ImageParts) : Type 0 where
  pub count : length one.comps ≡ length other.comps
  pub main : one.main ≡ other.main
  pub entry : set one.main ≡ false → one.entry ≡ other.entry
  pub others : (c : ℕ) → set c ≡ false → AgreeFor c one other
  pub globals : (c : ℕ) → set c ≡ false → initial_globals one c ≡ initial_globals other c

-- The same, as one checks it on two images: the compartments outside the set are equal, and so are the exports of all
-- compartments.
pub record SameBut (set : ℕ → Bool) (one other : ImageParts) : Type 0 where
  pub count : length one.comps ≡ length other.comps
  pub main : one.main ≡ other.main
  pub entry : set one.main ≡ false → one.entry ≡ other.entry
  pub comps : (c : ℕ) → set c ≡ false → slice_get one.comps c ≡ slice_get other.comps c
  pub exports : (c : ℕ) → exported_by one c ≡ exported_by other c

-- The image with other globals in compartment c.
abbrev pub globals_in : (c : ℕ) → (globals : List ℕ) → List CompPart → List CompPart
globals_in c globals [] = []
globals_in zero globals (comp ∷ comps) = record comp { globals = globals } ∷ comps
globals_in (suc c) globals (comp ∷ comps) = comp ∷ globals_in c globals comps

abbrev pub image_with : ImageParts → (c : ℕ) → (globals : List ℕ) → ImageParts
image_with image c globals = record image { comps = globals_in c globals image.comps }

-- The two runs.

-- Two states, one of each image, with the same trace and the same active compartment, in which every compartment
-- outside the set has the same own parts.
pub record AlikeBut (set : ℕ → Bool) (one other : ImageParts) (state its : MachineState) : Type 0 where
  pub trace : state.trace ≡ its.trace
  pub active : state.active ≡ its.active
  pub others : (c : ℕ) → set c ≡ false → own one state c ≡ own other its c

-- a run that is out of steps would take one step more, and every other run has stopped
abbrev pub one_if_out : Stop → ℕ
one_if_out StepsOut = 1
one_if_out _ = 0

-- 1 where a run is out of steps while a compartment outside the set is active, so that this compartment takes the next
-- step, and else 0
abbrev pub next_outside : (set : ℕ → Bool) → MachineRun → ℕ
next_outside set run = if set run.state.active then 0 else one_if_out run.stop

-- A run is given for each number of steps. This is how many of its first `steps` steps compartments outside the set
-- take.
abbrev pub steps_outside : (set : ℕ → Bool) → (run : ℕ → MachineRun) → (steps : ℕ) → ℕ
steps_outside set run zero = 0
steps_outside set run (suc steps) = next_outside set (run zero) + steps_outside set (λ later. run (suc later)) steps

-- How two runs go on from two states.

-- A run that comes by this state goes on with these events: the active compartment performs the first of them. Where
-- there are none, the run ends at this state with a trap.
abbrev pub ActsNext : MachineState → MachineRun → (more : List Event) → Type 0
ActsNext state run [] = (reason : TrapReason) × (run ≡ record { state = state; stop = Trap reason state.pc })
ActsNext state run (event ∷ more) = performer event ≡ state.active

-- two lists of events don't begin with the same event
abbrev pub BeginOtherwise : (more its_more : List Event) → Type 0
BeginOtherwise [] its_more = Unit {0}
BeginOtherwise (event ∷ more) [] = Unit {0}
BeginOtherwise (event ∷ more) (its_event ∷ its_more) = event ≢ its_event

-- Two runs part at two states: a compartment of the set is active, and the two runs don't go on with the same event of
-- it. It performs another event in the second run, or it traps in one run or in both.
pub record PartAt (set : ℕ → Bool) (state its : MachineState) (run its_run : MachineRun) : Type 0 where
  pub member : set state.active ≡ true
  pub more : List Event
  pub its_more : List Event
  pub trace : run.state.trace ≡ state.trace ++ more
  pub its_trace : its_run.state.trace ≡ its.trace ++ its_more
  pub acts : ActsNext state run more
  pub its_acts : ActsNext its its_run its_more
  pub apart : BeginOtherwise more its_more

-- both runs stop at two states, for the same cause
pub record StopSame (state its : MachineState) (run its_run : MachineRun) : Type 0 where
  pub state_is : run.state ≡ state
  pub its_state_is : its_run.state ≡ its
  pub stop : run.stop ≡ its_run.stop

-- A run is out of steps after `taken` steps, which are all that it had. The other run comes by the state after
-- `its_taken` steps, and has its trace or a longer one in the end.
pub record IsOut (run its_run : ℕ → MachineRun) (taken its_taken steps its_steps : ℕ) : Type 0 where
  pub all : taken ≡ steps
  pub out : (run steps).stop ≡ StepsOut
  pub goes_on : IsPrefix (its_run its_taken).state.trace (its_run its_steps).state.trace

-- How two runs of at most `steps` and `its_steps` steps go on from the states after `taken` and `its_taken` steps.
pub data GoOn (set : ℕ → Bool) (run its_run : ℕ → MachineRun) (taken its_taken steps its_steps : ℕ) : Type 0 where
  StopBoth : (same : StopSame (run taken).state (its_run its_taken).state (run steps) (its_run its_steps)) →
      GoOn set run its_run taken its_taken steps its_steps
  PartThere : (part : PartAt set (run taken).state (its_run its_taken).state (run steps) (its_run its_steps)) →
      GoOn set run its_run taken its_taken steps its_steps
  OutOfSteps : (is_out : IsOut run its_run taken its_taken steps its_steps) →
      GoOn set run its_run taken its_taken steps its_steps
  ItsOutOfSteps : (is_out : IsOut its_run run its_taken taken its_steps steps) →
      GoOn set run its_run taken its_taken steps its_steps

-- Two runs, of at most `steps` and `its_steps` steps, come by two states that are alike outside the set. Up to there
-- the compartments outside took as many steps in one run as in the other. From there both runs stop for the same
-- cause, or they part in the set, or one of them is out of steps.
pub record AreApart (set : ℕ → Bool) (one other : ImageParts) (run its_run : ℕ → MachineRun) (steps its_steps : ℕ) :
    Type 0
  where
    pub taken : ℕ
    pub its_taken : ℕ
    pub within : taken ≤ steps
    pub its_within : its_taken ≤ its_steps
    pub alike : AlikeBut set one other (run taken).state (its_run its_taken).state
    pub time : steps_outside set run taken ≡ steps_outside set its_run its_taken
    pub ends : GoOn set run its_run taken its_taken steps its_steps

-- The laws, of any way to run images.

-- a run of an image on these inputs, with at most `steps` steps and `events` events
abbrev pub Execution : Type 0
Execution = ImageParts → (inputs : List ℕ) → (steps events : ℕ) → MachineRun

-- Two traces: one is a prefix of the other, or after a common prefix each goes on with an event of one and the same
-- compartment of the set, and these two events differ.
pub record DifferBy (set : ℕ → Bool) (trace its : List Event) : Type 0 where
  pub common : List Event
  pub event : Event
  pub later : List Event
  pub its_event : Event
  pub its_later : List Event
  pub is : trace ≡ common ++ event ∷ later
  pub its_is : its ≡ common ++ its_event ∷ its_later
  pub member : set (performer event) ≡ true
  pub same : performer its_event ≡ performer event
  pub differ : event ≢ its_event

abbrev pub AgreeUpTo : (set : ℕ → Bool) → (trace its : List Event) → Type 0
AgreeUpTo set trace its = IsPrefix trace its ⊎ (IsPrefix its trace ⊎ DifferBy set trace its)

-- two runs that came by two states with the same trace and the same active compartment parted there
pub record HaveParted (set : ℕ → Bool) (run its_run : MachineRun) : Type 0 where
  pub state : MachineState
  pub its : MachineState
  pub trace : state.trace ≡ its.trace
  pub active : state.active ≡ its.active
  pub part : PartAt set state its run its_run

-- two runs with the same trace stopped for the same cause
pub record HaveStopped (run its_run : MachineRun) : Type 0 where
  pub trace : run.state.trace ≡ its_run.state.trace
  pub stop : run.stop ≡ its_run.stop

-- Two runs, of at most `steps` and `its_steps` steps, of which one has stopped and the other is out of steps. In the
-- run that is out of steps, the compartments outside the set took at most as many steps as the run that has stopped was
-- given, or the runs have parted. All further steps were those of compartments of the set.
pub record OnlySetTakesMore (set : ℕ → Bool) (run its_run : ℕ → MachineRun) (steps its_steps : ℕ) : Type 0 where
  pub second : (run steps).stop ≢ StepsOut → (its_run its_steps).stop ≡ StepsOut →
      (steps_outside set its_run its_steps ≤ steps) ⊎ HaveParted set (run steps) (its_run its_steps)
  pub first : (run steps).stop ≡ StepsOut → (its_run its_steps).stop ≢ StepsOut →
      (steps_outside set run steps ≤ its_steps) ⊎ HaveParted set (run steps) (its_run its_steps)

module _ (running : Execution) where
  -- a property of the runs of two images that agree outside a set, on the same inputs with the same limit of events
  abbrev OfRuns : ((set : ℕ → Bool) → (one other : ImageParts) → (run its_run : ℕ → MachineRun) →
      (steps its_steps : ℕ) → Type 0) → Type 0
  OfRuns P =
      (set : ℕ → Bool) (one other : ImageParts) (inputs : List ℕ) (steps its_steps events : ℕ) → IsWellFormed one →
      IsWellFormed other → All IsWord inputs → AgreeBut set one other →
      P set one other (λ steps. running one inputs steps events) (λ steps. running other inputs steps events) steps
      its_steps

  -- The runs are apart.
  abbrev pub RunsApartBy : Type 0
  RunsApartBy = OfRuns AreApart

  -- The traces agree up to an event of the set.
  abbrev pub TracesApartBy : Type 0
  TracesApartBy = OfRuns (λ set one other run its_run steps its_steps.
      AgreeUpTo set (run steps).state.trace (its_run its_steps).state.trace)

  -- Where neither run is out of steps, they have stopped for the same cause with the same trace, or they have parted.
  abbrev pub StopsApartBy : Type 0
  StopsApartBy = OfRuns (λ set one other run its_run steps its_steps.
      (run steps).stop ≢ StepsOut → (its_run its_steps).stop ≢ StepsOut →
      HaveStopped (run steps) (its_run its_steps) ⊎ HaveParted set (run steps) (its_run its_steps))

  -- Only compartments of the set can delay the others.
  abbrev pub OnlySetDelaysBy : Type 0
  OnlySetDelaysBy = OfRuns (λ set one other run its_run steps its_steps.
      OnlySetTakesMore set run its_run steps its_steps)

-- The machine of images.

abbrev pub RunsApart : Type 0
RunsApart = RunsApartBy machine

abbrev pub TracesApart : Type 0
TracesApart = TracesApartBy machine

abbrev pub StopsApart : Type 0
StopsApart = StopsApartBy machine

abbrev pub OnlySetDelays : Type 0
OnlySetDelays = OnlySetDelaysBy machine

-- Images that are the same outside the set agree there.
abbrev pub SameAgree : Type 0
SameAgree = (set : ℕ → Bool) (one other : ImageParts) → SameBut set one other → AgreeBut set one other

-- The runs of one image with two contents of the globals of compartment c are apart: what it keeps there is its own.
abbrev pub GlobalsApart : Type 0
GlobalsApart =
    (image : ImageParts) (c : ℕ) (globals its_globals inputs : List ℕ) (steps its_steps events : ℕ) →
    IsWellFormed (image_with image c globals) → IsWellFormed (image_with image c its_globals) → All IsWord inputs →
    AreApart (nat_eq c) (image_with image c globals) (image_with image c its_globals)
    (λ steps. machine (image_with image c globals) inputs steps events)
    (λ steps. machine (image_with image c its_globals) inputs steps events) steps its_steps
