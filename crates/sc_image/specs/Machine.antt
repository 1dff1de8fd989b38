-- A run: steps until something stops it.
use Rattle.sc_image.specs.Common.{End, Ended, Event, EventsOut, StepsOut, Stop, Trap}
use Rattle.std.specs.Prelude.{ℕ, zero, suc, Bool, true, false, nat_le, ◌-◌, List, length, slice_get, Option, Some, None}
use Rattle.std.specs.Prelude.{if◌then◌else◌}
use Rattle.std.specs.Option.{option_map_or}
use Rattle.sc_image.specs.declared.parts.ImageParts.{ImageParts}
use Rattle.sc_image.specs.State.{MachineState, start}
use Rattle.sc_image.specs.Step.{Goes, OutcomeOf, Protection, Traps, by_owner}
unfoldable use Rattle.sc_image.specs.Step.{step_by}

-- the state that a run stops in, and why it stops
pub record RunOf (M : Type 0) : Type 0 where
  pub state : M
  pub stop : Stop

abbrev pub MachineRun : Type 0
MachineRun = RunOf MachineState

abbrev pub is_end : Event → Bool
is_end (End _ _) = true
is_end _ = false

-- the last event is `End`
abbrev pub is_ended : List Event → Bool
is_ended trace = option_map_or is_end (slice_get trace (length trace - 1)) false

-- why a run of at most `events` events stops before another step, if it does
unfoldable pub stopped : ℕ → List Event → Option Stop
stopped events trace = if is_ended trace then Some Ended else if nat_le events (length trace) then Some EventsOut else
    None

-- a run from a state: it stops there, or goes on
abbrev pub stops_or : {M : Type 0} → Option Stop → M → RunOf M → RunOf M
stops_or (Some stop) state run = record { state = state; stop = stop }
stops_or None state run = run

-- a run from a state after one step from it, which goes on or is a trap at this pc
abbrev pub after : {M : Type 0} → (pc : ℕ) → M → OutcomeOf M → (M → RunOf M) → RunOf M
after pc state (Goes next) run = run next
after pc state (Traps reason) run = record { state = state; stop = Trap reason pc }

module _ {M : Type 0} (protection : Protection M) where
  abbrev seen : M → MachineState
  seen = protection.carrier.seen

  -- at most `steps` steps from a state on, with at most `events` events in the whole trace
  unfoldable pub run_by : (events steps : ℕ) → M → RunOf M
  run_by events zero state = stops_or (stopped events (seen state).trace) state
      (record { state = state; stop = StepsOut })
  run_by events (suc steps) state = stops_or (stopped events (seen state).trace) state
      (after (seen state).pc state (step_by protection state) (run_by events steps))

-- a run of the machine with regions
abbrev pub run : ImageParts → List ℕ → (events steps : ℕ) → MachineState → MachineRun
run image inputs = run_by (by_owner image inputs)

-- at most `steps` steps from the start, with at most `events` events
abbrev pub machine : ImageParts → List ℕ → (steps events : ℕ) → MachineRun
machine image inputs steps events = run image inputs events steps (start image)

-- a run with more steps: it goes on only where it stopped for want of steps
abbrev pub unless_stopped : {M : Type 0} → Stop → (earlier later : RunOf M) → RunOf M
unless_stopped StepsOut earlier later = later
unless_stopped _ earlier later = earlier

abbrev pub continued : {M : Type 0} → (M → RunOf M) → RunOf M → RunOf M
continued go earlier = unless_stopped earlier.stop earlier (go earlier.state)
