-- The traces of the machine's runs beside a program's run, wherever either is stopped.
use Rattle.sc_emit_run_laws.specs.Common.{AgreesInDepth, Blamed, Ended, Event, EventsOut, ImageParts, IsPrefix}
use Rattle.sc_emit_run_laws.specs.Common.{IsWellFormed, IsWord, LacksRoom, Owner, Run, RunsAgree, TurnsOut, depth_in}
use Rattle.sc_emit_run_laws.specs.Common.{machine, stack_size, stopped_at}
use Rattle.sc_image.specs.Prelude.{MachineRun as MachineRun}
use Rattle.std.specs.Prelude.{◌≡◌, ℕ, ◌<◌, ◌≤◌, ◌⊎◌, List, length, All}
use Rattle.sc_base.specs.declared.stop.Stop.{Stop}
use Rattle.sc_base.specs.declared.stop.Stop.TheVariants.{Ended as EndedStop, EventsOut as EventsStop, StepsOut, Trap}
use Rattle.sc_core.specs.declared.run.RunEnd.{RunEnd}
use Rattle.sc_core.specs.declared.run.SourceRun.{SourceRun}
use Rattle.sc_emit_run_laws.specs.Moments.{ExceedsStack}
use Rattle.sc_emit_run_laws.specs.Outcomes.{Outcome}

abbrev pub IsBlamed : RunEnd → Type 0
IsBlamed (Blamed comp cause line) = Unit {0}
IsBlamed Ended = ⊥
IsBlamed TurnsOut = ⊥
IsBlamed EventsOut = ⊥

-- a run keeps to a trace: it emits all of it, or is blamed before
abbrev pub KeepsTo : List Event → SourceRun → Type 0
KeepsTo trace run = IsPrefix trace run.trace ⊎ (IsBlamed run.end × IsPrefix run.trace trace)

abbrev pub IsTrap : Stop → Type 0
IsTrap EndedStop = ⊥
IsTrap EventsStop = ⊥
IsTrap StepsOut = ⊥
IsTrap (Trap reason pc) = Unit {0}

-- a run is blamed, and its events begin a trace
abbrev pub IsBlamedWithin : List Event → SourceRun → Type 0
IsBlamedWithin trace run = IsBlamed run.end × IsPrefix run.trace trace

-- a stack is full: the machine stands trapped where a function's frame has no room, and has emitted a prefix of the
-- trace of the run, stopped at `events` events. In that run the depth of the same compartment is more than a stack's
-- size, and is so at a moment with exactly as many events as the machine has emitted
pub record StackIsFull (image : ImageParts) (machine : MachineRun) (run : Run) (events : ℕ) : Type 0 where
  pub stop : machine.stop ≡ Trap Owner machine.state.pc
  pub lacks : LacksRoom image machine.state
  pub trace : IsPrefix machine.state.trace (stopped_at events run.behaviour).trace
  pub deep : stack_size < depth_in run events machine.state.active
  pub exceeds : ExceedsStack run (length machine.state.trace) machine.state.active

pub record SimulatesRun (image : ImageParts) (inputs : List ℕ) (bound turns : ℕ) (run : Run) : Type 0 where
  -- within the bound on steps the machine emits all that the run emits, or it stands trapped since a stack is full
  pub forward : (events : ℕ) →
      IsPrefix (stopped_at events run.behaviour).trace (machine image inputs bound events).state.trace
      ⊎ StackIsFull image (machine image inputs bound events) run events
  -- in no more steps than the run had turns it emits nothing else, unless the run is blamed and it emitted all of that
  pub backward : (steps events : ℕ) → steps ≤ turns →
      IsPrefix (machine image inputs steps events).state.trace (stopped_at events run.behaviour).trace
      ⊎ (IsBlamed (stopped_at events run.behaviour).end ×
      IsPrefix (stopped_at events run.behaviour).trace (machine image inputs steps events).state.trace)
  -- where a trap stops it in no more steps, the run is blamed after events that it emitted, or a stack is full
  pub trapped : (steps events : ℕ) → steps ≤ turns → IsTrap (machine image inputs steps events).stop →
      IsBlamedWithin (machine image inputs steps events).state.trace (stopped_at events run.behaviour)
      ⊎ StackIsFull image (machine image inputs steps events) run events

-- from the outcome beside a run, for each run that agrees with it up to a blame for arithmetic and the lines of blames
pub record OutcomesSimulate : Type 0 where
  pub emits : (image : ImageParts) (inputs : List ℕ) (bound turns : ℕ) (one other : Run) → IsWellFormed image →
      All IsWord inputs → AgreesInDepth one other → Outcome image inputs bound turns other →
      SimulatesRun image inputs bound turns one
  pub along : (image : ImageParts) (inputs : List ℕ) (bound turns : ℕ) (run other : Run) → RunsAgree run other →
      SimulatesRun image inputs bound turns other → SimulatesRun image inputs bound turns run
