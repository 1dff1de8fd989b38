-- Helping: what pieces of a run come to.
use Rattle.sc_run.specs.Common.{Exit, Left, Piece, Reached, RunEnd, State, Stopped}
use Rattle.std.specs.Prelude.{◌≡◌, ℕ, ◌+◌, ◌≤◌, length, Result, Ok, Err}
use Rattle.sc_run.specs.Seen.{Seen, seen_of}

-- the piece came to this, and this is seen then
abbrev pub CameTo : {V : Type 0} → Result V RunEnd → Seen → Piece V → Type 0
CameTo (Ok v) seen (Reached w s) = (w ≡ v) × (seen_of s ≡ seen)
CameTo (Ok v) seen (Stopped end s) = ⊥
CameTo (Err end) seen (Reached w s) = ⊥
CameTo (Err end) seen (Stopped e s) = (e ≡ end) × (seen_of s ≡ seen)

-- from every state of which the first is seen, the piece comes to this; it takes turns, gives none, and makes `made`
-- blocks at most
pub record ComesMaking (made : ℕ) {V : Type 0} (before after : Seen) (result : Result V RunEnd)
    (piece : State → Piece V) : Type 0 where
  pub comes : (s : State) → seen_of s ≡ before → CameTo result after (piece s)
  pub fewer : after.turns ≤ before.turns
  pub lengths : (comp : ℕ) → length (after.memory comp) ≤ length (before.memory comp) + made

abbrev pub Comes : {V : Type 0} → Seen → Seen → Result V RunEnd → (State → Piece V) → Type 0
Comes before after result piece = ComesMaking 0 before after result piece

-- statements that end as usual, or the end of the run
abbrev pub with_exit : {V : Type 0} → Exit → Result V RunEnd → Result (Left (Unit {0})) RunEnd
with_exit exit (Ok v) = Ok (record { exit = exit; carried = tt })
with_exit exit (Err end) = Err end
