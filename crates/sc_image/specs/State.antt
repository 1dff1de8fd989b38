-- The machine's state, and the state that a run starts in.
pub use Rattle.rv_code.specs.Registers.{a0, a1, a7, ra, sp}
use Rattle.sc_image.specs.Common.{Entry, Event, ByteMemory, is_in}
use Rattle.std.specs.Prelude.{ℕ, suc, ◌-◌, nat_eq, List, [], ◌∷◌, ◌++◌, map, replicate, slice_get, slice_index}
use Rattle.std.specs.Prelude.{slice_set, slice_index_or, Some, None, if◌then◌else◌}
use Rattle.std.specs.Option.{option_and_then}
use Rattle.sc_zone.specs.declared.span.Span.{Span}
use Rattle.sc_image.specs.declared.parts.ImageParts.{ImageParts}
use Rattle.sc_image.specs.declared.parts.CompPart.{CompPart}
use Rattle.sc_image.specs.Layout.{comp_of_data, stack_top, gate, Filled, data_with}

-- a call of another compartment that hasn't returned
pub record Crossing : Type 0 where
  -- the caller, its return address and its sp
  pub caller : ℕ
  pub pc : ℕ
  pub sp : ℕ
  -- the callee, its entry, and the callee's saved sp before the call
  pub callee : ℕ
  pub entry : Entry
  pub saved : ℕ

pub record MachineState : Type 0 where
  -- x0 to x31, in this order
  pub regs : List ℕ
  pub pc : ℕ
  -- the compartment whose code runs
  pub active : ℕ
  -- of each compartment, the sp that it gets at its next call
  pub saved : List ℕ
  -- of each compartment, the live blocks of its zone
  pub zones : List (List Span)
  -- the bytes at the addresses that have an owner
  pub memory : ByteMemory
  -- the latest call first
  pub cross : List Crossing
  -- how many inputs were read
  pub input : ℕ
  -- the oldest event first
  pub trace : List Event

abbrev pub reg : MachineState → ℕ → ℕ
reg state r = slice_index state.regs r

-- the sp that a compartment gets at its next call
abbrev pub saved_sp : MachineState → ℕ → ℕ
saved_sp state c = slice_index state.saved c

-- the live blocks of a compartment's zone
abbrev pub zone_of : MachineState → ℕ → List Span
zone_of state c = slice_index_or state.zones c []

-- the registers with a word in one of them; x0 stays 0
abbrev pub written : List ℕ → (r word : ℕ) → List ℕ
written regs r word = if nat_eq r 0 then regs else slice_set regs r word

abbrev pub with_reg : MachineState → (r word : ℕ) → MachineState
with_reg state r word = record state { regs = written state.regs r word }

abbrev pub with_pc : MachineState → ℕ → MachineState
with_pc state pc = record state { pc = pc }

abbrev pub with_event : MachineState → Event → MachineState
with_event state event = record state { trace = state.trace ++ event ∷ [] }

-- The start.

-- the byte at an address of these regions
abbrev pub byte_at : List Filled → ByteMemory
byte_at [] address = None
byte_at (filled ∷ others) address =
    if is_in filled.region address then Some (slice_index filled.bytes (address - filled.region.start)) else
    byte_at others address

-- the bytes at the start: those of the compartment's data in whose stretch an address lies
unfoldable pub start_memory : ImageParts → ByteMemory
start_memory image address =
    let c = comp_of_data address in
    option_and_then (λ comp. byte_at (data_with c comp.globals comp.heap) address) (slice_get image.comps c)

-- the stack tops of the compartments from number c on
abbrev pub stack_tops : ℕ → List CompPart → List ℕ
stack_tops c [] = []
stack_tops c (comp ∷ comps) = stack_top c ∷ stack_tops (suc c) comps

-- the run starts at the main entry, with an empty stack, with ra at the gate, and with all of each zone free
abbrev pub start : ImageParts → MachineState
start image = record {
  regs = 0 ∷ gate ∷ stack_top image.main ∷ replicate 29 0;
  pc = image.entry;
  active = image.main;
  saved = stack_tops 0 image.comps;
  zones = map (λ comp. []) image.comps;
  memory = start_memory image;
  cross = [];
  input = 0;
  trace = [];
}
