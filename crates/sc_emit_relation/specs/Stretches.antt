-- Stretches of a run on both sides: of the machine, and of a meaning whose state stands beside the machine's.
use Rattle.sc_emit_relation.specs.Common.{Addresses, AllBefore, CallTarget, Cell, Crossing, Grown, ImageParts}
use Rattle.sc_emit_relation.specs.Common.{IsSteadyState, Memory, Piece, Registers, State as Meant, Traps, Value, Walks}
use Rattle.sc_emit_relation.specs.Common.{at, last, stack_depth, stack_size, stack_top, step, word, zone_start}
use Rattle.sc_emit_hart.specs.Prelude.{LacksRoom, TakesLast, World}
use Rattle.sc_store.specs.Prelude.{ByteMemory as Bytes}
use Rattle.sc_image.specs.Prelude.{MachineState}
use Rattle.sc_zone.specs.declared.span.Span.{Span}
use Rattle.std.specs.Prelude.{Bool, List, None, Option, Some, ℕ, [], drop, false, length, slice_index, slice_index_or}
use Rattle.std.specs.Prelude.{suc, ◌*◌, ◌+◌, ◌<◌, ◌≡◌, ◌≢◌, ◌≤◌, ◌⊎◌}
use Rattle.sc_base.specs.declared.stop.TrapReason.TheVariants.{Owner}
use Rattle.sc_emit_relation.specs.Blocks.{BlocksMatch, Guarded, Injection, LiveAt, StandsFor, ZoneMatches}

-- what stays for a whole run: the image, the inputs and the state that it began in, the compartments that perform in
-- place of running their code, how many steps a turn pays for, where what code refers to lies, how many globals each
-- compartment has, which calls its code makes with `args` arguments, and which of them come back with a value
pub record Setting : Type 0 where
  pub image : ImageParts
  pub inputs : List ℕ
  pub from : MachineState
  pub performs : ℕ → Bool
  pub turn_pays : ℕ
  pub addresses : ℕ → Addresses
  pub globals : ℕ → ℕ
  pub makes : (comp : ℕ) → CallTarget → (args : ℕ) → Bool
  pub gives : (comp : ℕ) → CallTarget → Bool

-- both sides at once; what the machine has besides is computed from it
pub record Joint : Type 0 where
  pub inj : Injection
  pub meant : Meant
  pub pc : ℕ
  pub regs : Registers
  pub bytes : Bytes
  pub saved : List ℕ
  pub zones : List (List Span)
  pub input : ℕ

-- from where a stretch is seen: the active compartment, the open cross calls, the address from which on its stack
-- belongs to calls before, and the floor of each compartment
pub record Standpoint : Type 0 where
  pub comp : ℕ
  pub cross : List Crossing
  pub bound : ℕ
  pub floor : ℕ → ℕ

-- what the machine has besides its pc, its registers and its memory; the traces agree without a clause
abbrev pub world_at : Standpoint → Joint → World
world_at P x = record {
  active = P.comp;
  saved = x.saved;
  zones = x.zones;
  cross = P.cross;
  input = x.input;
  trace = x.meant.trace;
}

abbrev pub machine : Standpoint → Joint → MachineState
machine P x = at x.pc x.regs x.bytes (world_at P x)

module _ (T : Setting) where
  -- the machine's run came to a state
  pub record Came (to : MachineState) : Type 0 where
    pub steps : ℕ
    pub walks : Walks T.image T.inputs steps T.from to

  -- what stands on both sides between any two statements, calls or functions
  pub record Settled (P : Standpoint) (x : Joint) : Type 0 where
    pub blocks : BlocksMatch T.image T.performs P.floor x.inj x.meant.memory x.bytes
    pub globals : (k number : ℕ) → T.performs k ≡ false → number < T.globals k →
        x.inj k number ≡ Some ((T.addresses k).global number)
    -- a compartment that isn't active has its floor as its saved sp
    pub saved : (k : ℕ) → k ≢ P.comp → T.performs k ≡ false → slice_index x.saved k ≡ P.floor k
    pub zones : (k : ℕ) → T.performs k ≡ false → ZoneMatches (slice_index_or x.zones k []) (x.meant.memory k)
    pub inputs : x.meant.inputs ≡ drop x.input T.inputs
    pub steady : IsSteadyState T.image (machine P x)
    pub came : Came (machine P x)
    -- what is in use of a stack is no more than its stack depth in the meaning
    pub depth : (k : ℕ) → T.performs k ≡ false → stack_top k ≤ P.floor k + stack_depth k x.meant
    -- each change of frames was made within the trace
    pub timed : AllBefore (suc (length x.meant.trace)) x.meant.frames

  -- a word that belongs to what lies above: to calls before, or to another compartment
  pub record Protected (P : Standpoint) (inj : Injection) (memory : Memory) (k q : ℕ) : Type 0 where
    pub honest : T.performs k ≡ false
    pub guard : Guarded T.image inj memory k q
    pub own : k ≡ P.comp → P.bound ≤ q
    pub other : k ≢ P.comp → P.floor k ≤ q

  -- what a stretch leaves unchanged
  pub record Effect (P : Standpoint) (x y : Joint) : Type 0 where
    pub grows : (k b a : ℕ) → x.inj k b ≡ Some a → y.inj k b ≡ Some a
    -- what lives after it lived before, with as many cells, or lies in the zone
    pub lived : (k b : ℕ) (cells : List Cell) → T.performs k ≡ false → LiveAt y.meant.memory k b cells →
        ((old : List Cell) × LiveAt x.meant.memory k b old × (length cells ≡ length old))
        ⊎ ((a : ℕ) × (y.inj k b ≡ Some a) × (zone_start k ≤ a))
    pub keeps : (k q : ℕ) → Protected P x.inj x.meant.memory k q → word y.bytes q ≡ word x.bytes q
    pub depths : (k : ℕ) → stack_depth k y.meant ≡ stack_depth k x.meant

  -- every compartment of the image runs its code: only then is there an upper bound on steps
  abbrev pub AllHonest : Type 0
  AllHonest = (k : ℕ) → k < length T.image.comps → T.performs k ≡ false

  -- `steps` steps lead on both sides from x to y: no more turns are taken than these steps, and `left` steps are left
  -- of a budget of `budget`, to which each turn that is taken adds what it pays for
  pub record Costs (steps budget left : ℕ) (x y : Meant) : Type 0 where
    pub least : x.turns ≤ y.turns + steps
    pub most : AllHonest → steps + left + T.turn_pays * y.turns ≤ budget + T.turn_pays * x.turns

  pub record Leads (P : Standpoint) (x y : Joint) (budget left : ℕ) : Type 0 where
    pub steps : ℕ
    pub run : Walks T.image T.inputs steps (machine P x) (machine P y)
    pub costs : Costs steps budget left x.meant y.meant
    pub effect : Effect P x y

  -- the meaning ends: the machine has emitted its events
  pub record Emits (P : Standpoint) (x : Joint) (budget : ℕ) (meant : Meant) : Type 0 where
    pub steps : ℕ
    pub reached : MachineState
    pub run : Walks T.image T.inputs steps (machine P x) reached
    pub trace : reached.trace ≡ meant.trace
    pub costs : Costs steps budget 0 x.meant meant

  -- the one exception: a call has begun whose frame goes below its stack, and the machine stands trapped at its first
  -- store, with sp below all data. The meaning goes on from there
  pub record Overflows {V : Type 0} (P : Standpoint) (x : Joint) (budget : ℕ) (piece : Piece V) : Type 0 where
    pub steps : ℕ
    pub reached : MachineState
    pub run : Walks T.image T.inputs steps (machine P x) reached
    pub traps : step T.image T.inputs reached ≡ Traps Owner
    pub lacks : LacksRoom T.image reached
    pub taken : TakesLast T.image lacks.bytes reached
    pub honest : T.performs reached.active ≡ false
    pub begun : Meant
    pub trace : reached.trace ≡ begun.trace
    pub deep : stack_size < stack_depth reached.active begun
    pub timed : AllBefore (suc (length begun.trace)) begun.frames
    pub grown : Grown begun (last piece)
    pub costs : Costs steps budget 0 x.meant begun

  -- a value that is returned, in a0
  abbrev pub ReturnsValue : (ℕ → Option ℕ) → ℕ → Option Value → Type 0
  ReturnsValue place w None = Unit {0}
  ReturnsValue place w (Some v) = StandsFor place w v
