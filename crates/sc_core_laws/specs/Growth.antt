-- How a run goes on: events are appended, turns are spent, and it stops only for a blame or for want of turns.
use Rattle.sc_core_laws.specs.Common.{IsPrefix, IsStop, Piece, Reached, State, Stopped}
use Rattle.std.specs.Prelude.{◌≤◌, length}
use Rattle.sc_core_laws.specs.Depths.{AllFrom}

-- a state that comes after another: its events and its frames go on from the other's, where each change of frames is of
-- the moment at which it was made, and it has no more turns
pub record Grown (s t : State) : Type 0 where
  pub events : IsPrefix s.trace t.trace
  pub frames : IsPrefix s.frames t.frames
  pub late : AllFrom (length s.trace) frames.more
  pub turns : t.turns ≤ s.turns

-- the state to which a piece comes
abbrev pub last : {V : Type 0} → Piece V → State
last (Reached v s) = s
last (Stopped end s) = s

-- a piece that ends the run, if it does, with such an end
abbrev pub StopsSo : {V : Type 0} → Piece V → Type 0
StopsSo (Reached v s) = Unit {0}
StopsSo (Stopped end s) = IsStop end

-- a piece that goes on from a state
pub record Gone {V : Type 0} (s : State) (o : Piece V) : Type 0 where
  pub grown : Grown s (last o)
  pub stop : StopsSo o

-- what is done from a state only goes on
abbrev pub Goes : {V : Type 0} → (State → Piece V) → Type 0
Goes f = (s : State) → Gone s (f s)
