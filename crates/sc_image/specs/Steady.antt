-- The steady states: those that a run may go on from, whether or not a run reaches them. The start is one, and each
-- step keeps it so. They differ from one another in all that a compartment may hold: its data, its zone's blocks, its
-- registers, and its numbers on the cross stack.
use Rattle.sc_image.specs.Common.{Call, End, Entry, Event, Export, HoldsBytes, In, Out, Ret}
use Rattle.std.specs.Prelude.{◌≡◌, ◌≢◌, ℕ, suc, ◌<◌, List, [], ◌∷◌, length, map, fold, All, slice_get, Option}
use Rattle.sc_image.specs.declared.parts.ImageParts.{ImageParts}
use Rattle.sc_base.specs.Word.{IsWord}
use Rattle.sc_image.specs.State.{MachineState, Crossing, reg, saved_sp}

-- a call that is open: who called, and what was called
pub record OpenCall : Type 0 where
  pub caller : ℕ
  pub callee : ℕ
  pub entry : Entry

abbrev pub without_latest : List OpenCall → List OpenCall
without_latest [] = []
without_latest (latest ∷ earlier) = earlier

-- the calls that are open after one more event, the latest first
abbrev pub open_after : List OpenCall → Event → List OpenCall
open_after calls (Call from to index args) = record { caller = from; callee = to; entry = Export index } ∷ calls
open_after calls (Ret from to value) = without_latest calls
open_after calls (Out comp value) = calls
open_after calls (In comp value) = calls
open_after calls (End comp value) = calls

-- the calls that a trace leaves open
abbrev pub open_calls : List Event → List OpenCall
open_calls trace = fold open_after [] trace

abbrev pub call_of : Crossing → OpenCall
call_of crossing = record { caller = crossing.caller; callee = crossing.callee; entry = crossing.entry }

-- the latest call that is open, if one is
abbrev pub latest_call : MachineState → Option OpenCall
latest_call state = slice_get (map call_of state.cross) 0

-- how many inputs a trace has read
abbrev pub count_read : ℕ → Event → ℕ
count_read count (In comp value) = suc count
count_read count _ = count

abbrev pub inputs_in : List Event → ℕ
inputs_in trace = fold count_read 0 trace

-- the latest call is of the active compartment, was made by another one of the image, and that one is who the calls
-- before it made active
abbrev pub AreNested : (count active : ℕ) → List Crossing → Type 0
AreNested count active [] = Unit {0}
AreNested count active (x ∷ xs) = (x.callee ≡ active) × (x.caller ≢ x.callee) × (x.caller < count) ×
    AreNested count x.caller xs

-- what a call keeps are words
pub record KeepsWords (crossing : Crossing) : Type 0 where
  pub pc : IsWord crossing.pc
  pub sp : IsWord crossing.sp
  pub saved : IsWord crossing.saved

pub record IsSteadyState (image : ImageParts) (state : MachineState) : Type 0 where
  -- 32 registers that hold words, x0 always 0
  pub regs : length state.regs ≡ 32
  pub words : (r : ℕ) → IsWord (reg state r)
  pub zero : reg state 0 ≡ 0
  pub pc : IsWord state.pc
  pub active : state.active < length image.comps
  pub saved : length state.saved ≡ length image.comps
  pub saved_words : (c : ℕ) → IsWord (saved_sp state c)
  pub zones : length state.zones ≡ length image.comps
  pub bytes : HoldsBytes state.memory
  pub chain : AreNested (length image.comps) state.active state.cross
  pub kept : All KeepsWords state.cross
  -- the cross stack and the inputs agree with the trace
  pub calls : map call_of state.cross ≡ open_calls state.trace
  pub input : state.input ≡ inputs_in state.trace
