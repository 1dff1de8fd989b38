-- What isolates the compartments of an image: laws of the machine's steps.
use Rattle.sc_image.specs.Common.{Call, End, Entry, Event, In, Out, Ret, TrapReason}
use Rattle.std.specs.Prelude.{◌≡◌, ◌≢◌, ◌↔◌, ◌⊎◌, ℕ, zero, suc, Bool, true, false, ◌==◌, List, [], ◌∷◌, ◌++◌}
use Rattle.std.specs.Prelude.{length, drop, All}
use Rattle.std.specs.List.{list_any}
use Rattle.sc_event.specs.Standing.{performer}
use Rattle.sc_image.specs.declared.parts.ExportPart.{ExportPart}
use Rattle.sc_image.specs.declared.parts.ImageParts.{ImageParts}
use Rattle.sc_image.specs.Calls.{entered_export, exported_by, has_result, may_call_export, may_input, may_output}
use Rattle.sc_image.specs.Calls.{export_params}
use Rattle.sc_image.specs.Cross.{input_at}
use Rattle.sc_image.specs.Layout.{are_data, word_at}
use Rattle.sc_base.specs.Word.{IsWord}
use Rattle.sc_image.specs.WellFormed.{IsWellFormed}
use Rattle.sc_image.specs.State.{MachineState, start}
use Rattle.sc_image.specs.Step.{Outcome, Goes, Traps, step}
use Rattle.sc_image.specs.Machine.{machine}
use Rattle.sc_image.specs.Own.{Own, data_of, own}
use Rattle.sc_image.specs.Steady.{IsSteadyState, latest_call}

-- a run with these inputs comes to this state
abbrev pub IsReached : ImageParts → List ℕ → MachineState → Type 0
IsReached image inputs state = (steps : ℕ) × ((events : ℕ) × ((machine image inputs steps events).state ≡ state))

-- what can be observed of a step: the events that it emits, or its trap
pub data Observation : Type 0 where
  Adds : (events : List Event) → Observation
  Stops : (reason : TrapReason) → Observation

abbrev pub observation_of : MachineState → Outcome → Observation
observation_of state (Goes next) = Adds (drop (length state.trace) next.trace)
observation_of state (Traps reason) = Stops reason

-- the state after a step: a trap leaves it
abbrev pub after_outcome : MachineState → Outcome → MachineState
after_outcome state (Goes next) = next
after_outcome state (Traps reason) = state

-- a call of compartment d, or a return to it
abbrev pub activates : ℕ → Event → Bool
activates d (Call from to index args) = to == d
activates d (Ret from to value) = to == d
activates d (Out comp value) = false
activates d (In comp value) = false
activates d (End comp value) = false

-- the compartment that is active after an event
abbrev pub active_after : Event → ℕ
active_after (Call from to index args) = to
active_after (Ret from to value) = to
active_after (Out comp value) = comp
active_after (In comp value) = comp
active_after (End comp value) = comp

-- a step that changes neither the trace nor which compartment is active
pub record IsQuiet (state next : MachineState) : Type 0 where
  pub trace : next.trace ≡ state.trace
  pub active : next.active ≡ state.active

-- a step that adds one event: the active compartment performs it, and the event says which compartment is active next
pub record IsLoud (state next : MachineState) : Type 0 where
  pub event : Event
  pub trace : next.trace ≡ state.trace ++ event ∷ []
  pub by : performer event ≡ state.active
  pub active : next.active ≡ active_after event

-- a step emits an event that makes d active
abbrev pub emits_entry : ℕ → Observation → Bool
emits_entry d (Adds events) = list_any (activates d) events
emits_entry d (Stops reason) = false

-- What a compartment does.

-- a state that a run of an image with these inputs may go on from
pub record Point : Type 0 where
  pub image : ImageParts
  pub inputs : List ℕ
  pub state : MachineState

abbrev pub own_at : Point → (c : ℕ) → Own
own_at point c = own point.image point.state c

abbrev pub next_input : Point → ℕ
next_input point = input_at point.inputs point.state.input

-- compartment c is active at the point
pub record RunsAt (c : ℕ) (point : Point) : Type 0 where
  pub formed : IsWellFormed point.image
  pub inputs : All IsWord point.inputs
  pub steady : IsSteadyState point.image point.state
  pub active : point.state.active ≡ c

-- Two images that agree in what a step asks while compartment c is active. All else of the others may differ: their
-- code, data, imports and names, and which of their functions give a word back.
pub record AgreeFor (c : ℕ) (one other : ImageParts) : Type 0 where
  -- of c: its code, its addresses of data, what it may call, and which of its functions give a word back
  pub code : (address : ℕ) → word_at one c address ≡ word_at other c address
  pub owned : (address size : ℕ) → are_data one c address size ≡ are_data other c address size
  pub reads : may_input one c ≡ may_input other c
  pub writes : may_output one c ≡ may_output other c
  pub imports : (to index : ℕ) → may_call_export one c to index ≡ may_call_export other c to index
  pub results : (entry : Entry) → has_result one c entry ≡ has_result other c entry
  -- where the exports of all compartments begin
  pub entries : (to address : ℕ) → entered_export one to address ≡ entered_export other to address
  -- how many words the exports take that c may call
  pub params : (to index : ℕ) → may_call_export one c to index ≡ true →
      export_params one to index ≡ export_params other to index

-- Two points that a compartment can't distinguish: it is active at both, in images that agree for it, with the same own
-- parts, the same caller and function of its in the latest call that is open, and the same input to come.
-- All else may differ: what belongs to others, the calls that were open before, and the whole history of events and
-- inputs.
pub record LooksSame (c : ℕ) (one other : Point) : Type 0 where
  pub one_runs : RunsAt c one
  pub other_runs : RunsAt c other
  pub images : AgreeFor c one.image other.image
  pub own_parts : own_at one c ≡ own_at other c
  pub call : latest_call one.state ≡ latest_call other.state
  pub input : next_input one ≡ next_input other

-- The laws, of any machine on images.

-- what a machine does in a state of a run with these inputs
abbrev pub Stepping : Type 0
Stepping = ImageParts → (inputs : List ℕ) → MachineState → Outcome

module _ (stepping : Stepping) where
  abbrev pub observation_by : ImageParts → List ℕ → MachineState → Observation
  observation_by image inputs state = observation_of state (stepping image inputs state)

  abbrev pub after_by : ImageParts → List ℕ → MachineState → MachineState
  after_by image inputs state = after_outcome state (stepping image inputs state)

  -- a step is silent where it adds no event and doesn't trap
  abbrev pub IsSilentBy : ImageParts → List ℕ → MachineState → Type 0
  IsSilentBy image inputs state = observation_by image inputs state ≡ Adds []

  -- `steps` steps from a state on are silent
  abbrev pub AreSilentBy : ImageParts → List ℕ → (steps : ℕ) → MachineState → Type 0
  AreSilentBy image inputs zero state = Unit {0}
  AreSilentBy image inputs (suc steps) state = IsSilentBy image inputs state ×
      AreSilentBy image inputs steps (after_by image inputs state)

  -- the state after `steps` steps
  abbrev pub after_steps_by : ImageParts → List ℕ → (steps : ℕ) → MachineState → MachineState
  after_steps_by image inputs zero state = state
  after_steps_by image inputs (suc steps) state = after_steps_by image inputs steps (after_by image inputs state)

  -- A step leaves what belongs to every compartment but the active one as it was, unless its event is a call or a
  -- return that makes that one active.
  abbrev pub LeavesOthersBy : Type 0
  LeavesOthersBy =
      (image : ImageParts) (inputs : List ℕ) (state : MachineState) (d : ℕ) → IsWellFormed image →
      IsSteadyState image state → d ≢ state.active → emits_entry d (observation_by image inputs state) ≡ false →
      own image (after_by image inputs state) d ≡ own image state d

  -- A step leaves the data of every compartment but the active one as they were, also of one that it makes active.
  abbrev pub LeavesDataBy : Type 0
  LeavesDataBy =
      (image : ImageParts) (inputs : List ℕ) (state : MachineState) (d : ℕ) → IsWellFormed image → d ≢ state.active →
      data_of image d (after_by image inputs state).memory ≡ data_of image d state.memory

  abbrev pub observation_by_at : Point → Observation
  observation_by_at point = observation_by point.image point.inputs point.state

  -- the point that is `steps` steps later
  abbrev pub later_by : (steps : ℕ) → Point → Point
  later_by steps point = record point { state = after_steps_by point.image point.inputs steps point.state }

  -- `steps` steps from a point on are silent
  abbrev pub IsSilentForBy : (steps : ℕ) → Point → Type 0
  IsSilentForBy steps point = AreSilentBy point.image point.inputs steps point.state

  -- the compartment's own parts are the same at both points, and so is what comes next
  pub record GoesOnSameBy (c : ℕ) (one other : Point) : Type 0 where
    pub own_parts : own_at one c ≡ own_at other c
    pub next : observation_by_at one ≡ observation_by_at other
    pub later_parts : own_at (later_by 1 one) c ≡ own_at (later_by 1 other) c

  -- What a compartment does until the next event, and that event, follow from its own parts, the call that it is in,
  -- the input to come, and what the image says to it.
  abbrev pub FollowsFromOwnBy : Type 0
  FollowsFromOwnBy =
      (c : ℕ) (one other : Point) (steps : ℕ) → LooksSame c one other →
      (IsSilentForBy steps one ↔ IsSilentForBy steps other) ×
      (IsSilentForBy steps one → GoesOnSameBy c (later_by steps one) (later_by steps other))

  -- What belongs to a compartment that an event makes active follows from what belonged to it before, that event, and
  -- the functions that it offers.
  abbrev pub EntersByEventBy : Type 0
  EntersByEventBy =
      (d : ℕ) →
      (entered : List ExportPart → Own → Event → Own) ×
      ((image : ImageParts) (inputs : List ℕ) (state : MachineState) (event : Event) → IsWellFormed image →
      IsSteadyState image state → d ≢ state.active →
      observation_by image inputs state ≡ Adds (event ∷ []) → activates d event ≡ true →
      own image (after_by image inputs state) d ≡ entered (exported_by image d) (own image state d) event)

  -- A step from a steady state leads to a steady state.
  abbrev pub KeepsSteadyBy : Type 0
  KeepsSteadyBy =
      (image : ImageParts) (inputs : List ℕ) (state : MachineState) → IsWellFormed image → All IsWord inputs →
      IsSteadyState image state → IsSteadyState image (after_by image inputs state)

  -- A step adds at most one event. The event is one of the active compartment, and it says which compartment is active
  -- next. A step that adds none leaves the same compartment active.
  abbrev pub AddsOneBy : Type 0
  AddsOneBy =
      (image : ImageParts) (inputs : List ℕ) (state next : MachineState) → IsWellFormed image →
      IsSteadyState image state → stepping image inputs state ≡ Goes next → IsQuiet state next ⊎ IsLoud state next

  -- such a machine isolates the compartments of an image
  pub record IsIsolating : Type 0 where
    pub steady : KeepsSteadyBy
    pub one_event : AddsOneBy
    pub others : LeavesOthersBy
    pub bytes : LeavesDataBy
    pub follows : FollowsFromOwnBy
    pub enters : EntersByEventBy

-- The machine of images.

abbrev pub observation : ImageParts → List ℕ → MachineState → Observation
observation = observation_by step

abbrev pub after_step : ImageParts → List ℕ → MachineState → MachineState
after_step = after_by step

abbrev pub IsSilentStep : ImageParts → List ℕ → MachineState → Type 0
IsSilentStep = IsSilentBy step

abbrev pub observation_at : Point → Observation
observation_at = observation_by_at step

abbrev pub later : (steps : ℕ) → Point → Point
later = later_by step

abbrev pub LeavesOthers : Type 0
LeavesOthers = LeavesOthersBy step

abbrev pub LeavesData : Type 0
LeavesData = LeavesDataBy step

abbrev pub FollowsFromOwn : Type 0
FollowsFromOwn = FollowsFromOwnBy step

abbrev pub EntersByEvent : Type 0
EntersByEvent = EntersByEventBy step

-- The start is steady, each step from a steady state leads to one, and so every state that a run reaches is steady.
pub record RunsAreSteady : Type 0 where
  pub first : (image : ImageParts) → IsWellFormed image → IsSteadyState image (start image)
  pub step : (image : ImageParts) (inputs : List ℕ) (state : MachineState) → IsWellFormed image → All IsWord inputs →
      IsSteadyState image state → IsSteadyState image (after_step image inputs state)
  pub reached : (image : ImageParts) (inputs : List ℕ) (state : MachineState) → IsWellFormed image → All IsWord inputs →
      IsReached image inputs state → IsSteadyState image state
