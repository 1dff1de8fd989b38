-- What belongs to a compartment in a state of the machine.
use Rattle.sc_image.specs.Common.{ByteMemory}
use Rattle.std.specs.Prelude.{ℕ, nat_eq, List, [], ◌∷◌, ◌++◌, flat_map, Option, Some, None, if◌then◌else◌}
use Rattle.sc_image.specs.declared.parts.ImageParts.{ImageParts}
use Rattle.sc_image.specs.Layout.{are_data}
use Rattle.sc_zone.specs.declared.span.Span.{Span}
use Rattle.sc_image.specs.State.{MachineState, Crossing, saved_sp, zone_of}

-- what a compartment has on the cross stack in a call: its return address and sp as the caller, or its saved sp of
-- before as the callee
pub data Kept : Type 0 where
  Waits : (pc sp : ℕ) → Kept
  Entered : (saved : ℕ) → Kept

abbrev pub kept_by : ℕ → Crossing → List Kept
kept_by c crossing =
    (if nat_eq crossing.caller c then Waits crossing.pc crossing.sp ∷ [] else []) ++
    (if nat_eq crossing.callee c then Entered crossing.saved ∷ [] else [])

-- what the compartment whose code runs has besides: x0 to x31, and the pc
pub record Running : Type 0 where
  pub regs : List ℕ
  pub pc : ℕ

pub record Own : Type 0 where
  -- the bytes of its data
  pub bytes : ByteMemory
  -- the live blocks of its zone
  pub zone : List Span
  -- its saved sp
  pub saved : ℕ
  -- its numbers on the cross stack, the latest call first
  pub calls : List Kept
  pub running : Option Running

-- the bytes at c's addresses
abbrev pub data_of : ImageParts → (c : ℕ) → ByteMemory → ByteMemory
data_of image c memory address = if are_data image c address 1 then memory address else None

-- what belongs to compartment c
abbrev pub own : ImageParts → MachineState → (c : ℕ) → Own
own image state c = record {
  bytes = data_of image c state.memory;
  zone = zone_of state c;
  saved = saved_sp state c;
  calls = flat_map (kept_by c) state.cross;
  running = if nat_eq state.active c then Some (record { regs = state.regs; pc = state.pc }) else None;
}
