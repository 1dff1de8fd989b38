-- Properties of states that pieces of a run keep.
use Rattle.sc_core.proofs.Common.{Piece, Reached, State, Stopped, and_then}
use Rattle.sc_core.specs.declared.run.RunEnd.{RunEnd}

-- what is kept: of the states at which a run goes on, and of those at which it stops
pub record Property : Type 1 where
  pub Goes : State → Type 0
  pub Ends : RunEnd → State → Type 0

module _ (K : Property) where
  abbrev pub After : {V : Type 0} → Piece V → Type 0
  After (Reached v s) = K.Goes s
  After (Stopped end s) = K.Ends end s

-- a piece of a run keeps the property
pub record Kept (K : Property) {V : Type 0} (piece : Piece V) : Type 0 where
  pub after : After K piece

pub then_kept : (K : Property) {V W : Type 0} (piece : Piece V) (go : V → State → Piece W) → Kept K piece →
    ((v : V) (s : State) → K.Goes s → Kept K (go v s)) → Kept K (and_then piece go)
then_kept K (Reached v s) go h k = k v s h.after
then_kept K (Stopped end s) go h k = record { after = h.after }
