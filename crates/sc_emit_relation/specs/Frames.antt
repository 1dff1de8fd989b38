-- The running call: its frame, and the places of its temporaries.
use Rattle.sc_emit_relation.specs.Common.{Crossing, FrameFits, Here, ImageParts, IsFrame, Memory, Place, Registers}
use Rattle.sc_emit_relation.specs.Common.{TempSet}
use Rattle.sc_emit_relation.specs.Common.{Temps, Value, data_start, register_of, stack_top, word}
use Rattle.sc_store.specs.Prelude.{ByteMemory as Bytes}
use Rattle.std.specs.Prelude.{◌≡◌, ℕ, ◌+◌, ◌%◌, ◌<◌, ◌≤◌, Bool, true, false, List, ◌∷◌, Some, slice_get}
use Rattle.sc_tac.specs.declared.frame.FrameTree.{FrameTree}
use Rattle.sc_tac.specs.declared.place.Place.TheVariants.{Register, Slot}
use Rattle.sc_emit_relation.specs.Blocks.{Injection, StandsFor, Guarded}

-- what stays while a call runs: where it runs, its frame and the address of that, where it returns to, the open cross
-- calls, and the floors of all compartments
pub record Activation : Type 0 where
  pub here : Here
  pub frame : FrameTree
  pub sp : ℕ
  pub ra : ℕ
  pub cross : List Crossing
  pub floor : ℕ → ℕ

-- the floor of each compartment that runs its code is a word of its stack, or the top of it
pub record AreFloors (performs : ℕ → Bool) (floor : ℕ → ℕ) : Type 0 where
  pub aligned : (k : ℕ) → performs k ≡ false → floor k % 4 ≡ 0
  pub low : (k : ℕ) → performs k ≡ false → data_start k ≤ floor k
  pub high : (k : ℕ) → performs k ≡ false → floor k ≤ stack_top k

-- the offsets of the words that a frame keeps for itself: the return address and the slots
abbrev pub own_words : FrameTree → List ℕ
own_words frame = 0 ∷ frame.slots

-- a frame that its function's variables and slots fit into, in the stack of a compartment that runs its code
pub record IsActivation (performs : ℕ → Bool) (cells : List ℕ) (places : List Place) (nodes : ℕ) (A : Activation) :
    Type 0 where
  pub honest : performs A.here.comp ≡ false
  pub known : A.here.comp < 32
  pub frame : IsFrame A.frame
  pub frame_fits : FrameFits cells places nodes A.frame
  pub aligned : A.sp % 4 ≡ 0
  pub low : data_start A.here.comp ≤ A.sp
  pub high : A.sp + A.frame.bytes ≤ stack_top A.here.comp
  pub floor : A.floor A.here.comp ≡ A.sp
  pub floors : AreFloors performs A.floor

-- the frame in memory: the return address, and where variables are; no variable meets a word of its own
pub record FrameMatches (image : ImageParts) (A : Activation) (inj : Injection) (memory : Memory) (bytes : Bytes) :
    Type 0 where
  pub ra : word bytes A.sp ≡ A.ra
  pub guard : (i offset : ℕ) → slice_get (own_words A.frame) i ≡ Some offset →
      Guarded image inj memory A.here.comp (A.sp + offset)
  pub objects : (object offset : ℕ) → slice_get A.frame.objects object ≡ Some offset →
      inj A.here.comp (A.here.first + object) ≡ Some (A.sp + offset)

-- a value in a place
abbrev pub InPlace : Activation → Injection → Registers → Bytes → Place → Value → Type 0
InPlace A inj regs bytes (Register r) v = StandsFor (inj A.here.comp) (regs (register_of r)) v
InPlace A inj regs bytes (Slot k) v =
    (offset : ℕ) × (slice_get A.frame.slots k ≡ Some offset) ×
    StandsFor (inj A.here.comp) (word bytes (A.sp + offset)) v

-- a temporary has its value in its place
pub record IsInPlace (A : Activation) (places : List Place) (inj : Injection) (regs : Registers) (bytes : Bytes) (t : ℕ)
    (v : Value) : Type 0 where
  pub place : Place
  pub its : slice_get places t ≡ Some place
  pub value : InPlace A inj regs bytes place v

-- each that is live and was assigned has
abbrev pub AreInPlace : Activation → List Place → Injection → Registers → Bytes → TempSet → Temps → Type 0
AreInPlace A places inj regs bytes live temps =
    (t : ℕ) (v : Value) → live t ≡ true → temps t ≡ Some v → IsInPlace A places inj regs bytes t v
