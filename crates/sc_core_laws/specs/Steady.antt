-- Runs with as many open calls as they have turns, and runs that say more of one another.
use Rattle.sc_core_laws.specs.Common.{Blamed, Body, Cause, IsPrefix, Run, SourceRun, Step, depth_in, stopped_at, within}
use Rattle.std.specs.Prelude.{◌≡◌, ℕ, suc, ◌≤◌, length}
use Rattle.sc_core_laws.specs.Depths.{AllFrom}
use Rattle.sc_core_laws.specs.Ends.{IsFinal, IsArithmetic}

-- what functions do that may have as many calls open as they have turns: there are never more
abbrev pub now : Step → Body
now step number here s = within step (suc s.turns) number here s

-- a run that goes on from another, and is the other one where no limit ended that
pub record Extends (run longer : SourceRun) : Type 0 where
  pub trace : IsPrefix run.trace longer.trace
  pub final : IsFinal run.end → longer ≡ run

-- runs, by turns and events, that are extended by those with more turns and more events
abbrev pub ExtendedByMore : (ℕ → ℕ → SourceRun) → Type 0
ExtendedByMore run = (turns more_turns events more_events : ℕ) → turns ≤ more_turns → events ≤ more_events →
    Extends (run turns events) (run more_turns more_events)

-- the second run is the first, or the first was blamed for arithmetic and the second goes on from there
pub data AgreesUntilBlame (run other : SourceRun) : Type 0 where
  same : other ≡ run → AgreesUntilBlame run other
  blamed : (comp : ℕ) (cause : Cause) (line : ℕ) → run.end ≡ Blamed comp cause line → IsArithmetic cause →
      IsPrefix run.trace other.trace → AgreesUntilBlame run other

-- the same of whole runs: the second is the first, or the first was blamed for arithmetic, and the second goes on in
-- its events and its frames, which change there only at later moments
pub data RunsUntilBlame (run other : Run) : Type 0 where
  same_run : other ≡ run → RunsUntilBlame run other
  blamed_run : (comp : ℕ) (cause : Cause) (line : ℕ) → run.behaviour.end ≡ Blamed comp cause line → IsArithmetic cause →
      IsPrefix run.behaviour.trace other.behaviour.trace → (frames : IsPrefix run.frames other.frames) →
      AllFrom (length run.behaviour.trace) frames.more → RunsUntilBlame run other

-- so they agree wherever they are stopped, and no compartment gets deeper in the first
pub record AgreesInDepth (run other : Run) : Type 0 where
  pub whole : RunsUntilBlame run other
  pub behaviour : (events : ℕ) → AgreesUntilBlame (stopped_at events run.behaviour) (stopped_at events other.behaviour)
  pub depth : (events comp : ℕ) → depth_in run events comp ≤ depth_in other events comp
