-- What the code of a running call rests on.
use Rattle.sc_emit_relation.proofs.Common.{Activation, All, IsActivation, IsSome, IsWellFormed, IsWord, List, Place}
use Rattle.sc_emit_relation.proofs.Common.{Register, Running, Setting, Slot, Some, slice_get, word_at, ℕ}
use Rattle.sc_emit_relation.proofs.Common.{◌%◌, ◌<◌, ◌≡◌, ◌≤◌}
use Rattle.sc_tac.specs.Prelude.{register_count}

-- what a place is that temporaries have: a register that there is, or a slot of the frame
abbrev pub IsPlace : Activation → Place → Type 0
IsPlace A (Register r) = r < register_count
IsPlace A (Slot k) = (offset : ℕ) × (slice_get A.frame.slots k ≡ Some offset)

-- the places of all temporaries are such
abbrev pub ArePlaced : Running → Type 0
ArePlaced R = (t : ℕ) (place : Place) → slice_get R.places t ≡ Some place → IsPlace R.activation place

-- the code of a function has no gap up to its last word
abbrev pub HasNoGap : Setting → Running → Type 0
HasNoGap T R =
    (p a : ℕ) → IsSome (word_at T.image R.activation.here.comp p) → p ≤ a → a ≤ R.last → a % 4 ≡ 0 →
    (word : ℕ) × (word_at T.image R.activation.here.comp a ≡ Some word)

-- the image and the inputs are such as there are, the call has its frame, and its temporaries their places; its code
-- has no gap
pub record IsRunning (T : Setting) (R : Running) : Type 0 where
  pub formed : IsWellFormed T.image
  pub inputs : All IsWord T.inputs
  pub cells : List ℕ
  pub nodes : ℕ
  pub is : IsActivation T.performs cells R.places nodes R.activation
  pub placed : ArePlaced R
  pub gapless : HasNoGap T R
