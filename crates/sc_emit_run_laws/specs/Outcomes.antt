-- What the machine does from its start, beside a run of code.
use Rattle.sc_emit_run_laws.specs.Common.{Ended, Goes, ImageParts, IsPrefix, IsStop, LacksRoom, Owner, Run, Traps}
use Rattle.sc_emit_run_laws.specs.Common.{TurnsOut, Walks, on_end, has_no_end, start, step}
use Rattle.sc_image.specs.Prelude.{MachineState}
use Rattle.std.specs.Prelude.{◌≡◌, ℕ, ◌<◌, ◌≤◌, true, List, length}
use Rattle.sc_emit_run_laws.specs.Moments.{ExceedsStack}

-- the machine reaches a state within a bound on steps, and no end was emitted on the way
pub record Reaches (image : ImageParts) (inputs : List ℕ) (bound : ℕ) : Type 0 where
  pub steps : ℕ
  pub reached : MachineState
  pub walks : Walks image inputs steps (start image) reached
  pub within : steps < bound
  pub going : has_no_end reached.trace ≡ true

module _ (image : ImageParts) (inputs : List ℕ) (bound turns : ℕ) (run : Run) where
  -- `main` returns on both sides: the next step is the end
  pub record Finishes : Type 0 where
    pub place : Reaches image inputs bound
    pub ends : step image inputs place.reached ≡ Goes (on_end place.reached)
    pub trace : (on_end place.reached).trace ≡ run.behaviour.trace
    pub end : run.behaviour.end ≡ Ended

  -- the run stops, and the machine has emitted its events; where that is for want of turns, it has taken as many steps
  pub record Stands : Type 0 where
    pub place : Reaches image inputs bound
    pub trace : place.reached.trace ≡ run.behaviour.trace
    pub end : IsStop run.behaviour.end
    pub spent : run.behaviour.end ≡ TurnsOut → turns ≤ place.steps

  -- the machine stands trapped, since a stack has no room for a frame: at a moment of the run with as many events its
  -- frames were too deep, too
  pub record IsFull : Type 0 where
    pub place : Reaches image inputs bound
    pub traps : step image inputs place.reached ≡ Traps Owner
    pub lacks : LacksRoom image place.reached
    pub trace : IsPrefix place.reached.trace run.behaviour.trace
    pub exceeds : ExceedsStack run (length place.reached.trace) place.reached.active

  pub data Outcome : Type 0 where
    finishes : Finishes → Outcome
    stands : Stands → Outcome
    is_full : IsFull → Outcome
