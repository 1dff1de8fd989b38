-- Moments of a run, and how deep stacks are at one.
use Rattle.sc_emit_run_laws.specs.Common.{AllBefore, AllFrom, FrameChange, IsPrefix, Run, depth_after, stack_size}
use Rattle.std.specs.Prelude.{ℕ, suc, ◌<◌, List}

-- a moment at which the run had emitted `events` events: by then these changes of frames had been made, and all others
-- come later
pub record Moment (run : Run) (events : ℕ) : Type 0 where
  pub made : List FrameChange
  pub prefix : IsPrefix made run.frames
  pub before : AllBefore (suc events) made
  pub after : AllFrom events prefix.more

-- at such a moment a compartment's open frames took more than a stack's size
pub record ExceedsStack (run : Run) (events comp : ℕ) : Type 0 where
  pub moment : Moment run events
  pub deep : stack_size < depth_after comp 0 moment.made
