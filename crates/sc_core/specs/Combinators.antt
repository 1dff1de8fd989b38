-- The combinators of the meaning, of trees and of code alike: pieces of a run, how control leaves statements, and
-- loops. What a run carries beside its state is a parameter `A`: nothing in trees, temporaries in three-address code.
use Rattle.sc_core.specs.Common.{Event}
use Rattle.std.specs.Prelude.{ℕ, zero, suc, ◌*◌, ◌++◌, List, [], ◌∷◌, length, Option, None, Some, Result, Ok, Err}
use Rattle.std.specs.Prelude.{if◌then◌else◌}
use Rattle.sc_core.specs.declared.cause.Cause.{Cause}
use Rattle.sc_core.specs.declared.expr.CallTarget.{CallTarget}
use Rattle.sc_core.specs.declared.run.RunEnd.{RunEnd}
use Rattle.sc_core.specs.declared.run.RunEnd.TheVariants.{Blamed, Ended, EventsOut, TurnsOut}
use Rattle.sc_core.specs.declared.value.Value.{Value}
use Rattle.sc_core.specs.declared.value.Value.TheVariants.{Null, Ptr}
use Rattle.sc_zone.specs.Prelude.{least_free}
use Rattle.sc_core.specs.Memory.{Blocks, Memory, allocated_at, freed, spans_of, with_blocks, store}
use Rattle.sc_core.specs.Value.{count_in, is_true}

-- a frame of a function of this compartment begins or ends, when the trace has `emitted` events; its frame size is
-- `size` bytes
pub data FrameChange : Type 0 where
  Opened : (emitted comp size : ℕ) → FrameChange
  Closed : (emitted comp size : ℕ) → FrameChange

-- the memory; the events and the changes of frames so far; the turns and the inputs that are left
pub record State : Type 0 where
  pub memory : Memory
  pub trace : List Event
  pub frames : List FrameChange
  pub turns : ℕ
  pub inputs : List ℕ

-- where a call runs: its compartment, and the number of its first block
pub record Here : Type 0 where
  pub comp : ℕ
  pub first : ℕ

-- what a piece of a run comes to: something, and the state after it; or the end of the whole run, and the state then
pub data Piece (V : Type 0) : Type 0 where
  Reached : V → State → Piece V
  Stopped : RunEnd → State → Piece V

-- an end that a piece of a run may come to: only a whole run has the end `Ended`, and only one that is stopped has
-- `EventsOut`
abbrev pub IsStop : RunEnd → Type 0
IsStop Ended = ⊥
IsStop (Blamed comp cause line) = Unit {0}
IsStop TurnsOut = Unit {0}
IsStop EventsOut = ⊥

-- one piece after another: nothing follows the end of the run
abbrev pub and_then : {V W : Type 0} → Piece V → (V → State → Piece W) → Piece W
and_then (Reached v s) go = go v s
and_then (Stopped end s) go = Stopped end s

-- what is computed, or blame at this line
abbrev pub computed : {V : Type 0} → Here → ℕ → Result V Cause → State → Piece V
computed here line (Ok v) s = Reached v s
computed here line (Err cause) s = Stopped (Blamed here.comp cause line) s

-- one turn less; the run ends where none is left
abbrev pub turn_of : ℕ → State → Piece (Unit {0})
turn_of zero s = Stopped TurnsOut s
turn_of (suc turns) s = Reached tt (record s { turns = turns })

abbrev pub turn : State → Piece (Unit {0})
turn s = turn_of s.turns s

-- the state in which a compartment has these blocks
abbrev pub with_memory : ℕ → Blocks → State → State
with_memory comp blocks s = record s { memory = with_blocks comp blocks s.memory }

abbrev pub emit_event : Event → State → State
emit_event event s = record s { trace = s.trace ++ event ∷ [] }

-- how control leaves statements (C11 6.8.6): at their end, by `break`, by `continue`, or by `return`
pub data Exit : Type 0 where
  Next : Exit
  Break : Exit
  Continue : Exit
  Return : Option Value → Exit

-- how control left, and what the run carries then
pub record Left (A : Type 0) : Type 0 where
  pub exit : Exit
  pub carried : A

-- what statements do
abbrev pub Does : Type 0 → Type 0
Does A = A → State → Piece (Left A)

-- control leaves at once
abbrev pub leave : {A : Type 0} → Exit → Does A
leave exit a s = Reached (record { exit = exit; carried = a }) s

-- a value at this place (C11 6.5.16)
abbrev pub stored : {A : Type 0} → Here → Value → Value → ℕ → Does A
stored here q v line a s =
    and_then (computed here line (store (s.memory here.comp) q v) s)
    (λ blocks s. leave Next a (with_memory here.comp blocks s))

-- a new block at a place of the zone of the compartment; null where there is none
abbrev pub placed : Here → (words : ℕ) → Option ℕ → State → Piece Value
placed here words None s = Reached Null s
placed here words (Some place) s =
    Reached (Ptr (record { block = length (s.memory here.comp); index = 0 }))
    (with_memory here.comp (s.memory here.comp ++ allocated_at place words ∷ []) s)

-- `words` cells of the zone of the compartment, from the least place from which they are free (C11 7.22.3.4)
abbrev pub allocated : Here → (words : ℕ) → State → Piece Value
allocated here words s = placed here words (least_free (spans_of (s.memory here.comp)) words) s

-- as many elements as a value says, of `words` cells each: the product is exact
abbrev pub elements_allocated : Here → Value → (words line : ℕ) → State → Piece Value
elements_allocated here v words line s =
    and_then (computed here line (count_in v) s) (λ count s. allocated here (count * words) s)

-- a value is freed (C11 7.22.3.3)
abbrev pub released : {A : Type 0} → Here → Value → ℕ → Does A
released here v line a s =
    and_then (computed here line (freed (s.memory here.comp) v) s)
    (λ blocks s. leave Next a (with_memory here.comp blocks s))

-- where an exit leads: to what follows, or further out
pub data Route : Type 0 where
  On : Route
  Out : Exit → Route

-- after a statement: the next one
abbrev pub in_order : Exit → Route
in_order Next = On
in_order Break = Out Break
in_order Continue = Out Continue
in_order (Return v) = Out (Return v)

-- after a part of a loop: what the loop does next; a `break` ends the loop
abbrev pub in_loop : Exit → Route
in_loop Next = On
in_loop Break = Out Next
in_loop Continue = On
in_loop (Return v) = Out (Return v)

abbrev pub take : {A : Type 0} → Route → Does A → Does A
take On go a s = go a s
take (Out exit) go a s = leave exit a s

-- what follows runs where the exit leads to it
abbrev pub follow : {A : Type 0} → (Exit → Route) → Piece (Left A) → Does A → Piece (Left A)
follow route piece go = and_then piece (λ left s. take (route left.exit) go left.carried s)

-- statements in order
abbrev pub all_do : {A : Type 0} → List (Does A) → Does A
all_do [] a s = leave Next a s
all_do (does ∷ rest) a s = follow in_order (does a s) (all_do rest)

-- a loop (C11 6.8.5) of at most this number of rounds: its head, a turn, its body, what comes next; a `break` in any of
-- them ends it
abbrev pub rounds : {A : Type 0} → ℕ → Does A → Does A → Does A → Does A
rounds zero head body next a s = Stopped TurnsOut s
rounds (suc n) head body next a s =
    follow in_loop (head a s) (λ a s. and_then (turn s)
    (λ _ s. follow in_loop (body a s) (λ a s. follow in_loop (next a s) (rounds n head body next))))

-- a loop from here: each round takes a turn, so there are never more rounds than turns and one
abbrev pub loop : {A : Type 0} → Does A → Does A → Does A → Does A
loop head body next a s = rounds (suc s.turns) head body next a s

-- the first where the value is true, else the second (C11 6.8.4.1)
abbrev pub choose : {A : Type 0} → Value → A → A → A
choose v first second = if is_true v then first else second

-- what a call does: from which compartment, of whom, with which values
abbrev pub Calls : Type 0
Calls = ℕ → CallTarget → List Value → State → Piece (Option Value)
