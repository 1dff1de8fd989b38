-- What instructions change, as the state that it stands for.
use Rattle.sc_machine.specs.Common.{Goes, ImageParts, ByteMemory, Outcome, MachineState, Traps, start_memory}
use Rattle.std.specs.Prelude.{◌≡◌, ◌+◌, ◌<◌, ◌≤◌, ℕ, All, length, is_some, map, vec_capacity, Result, Ok, Err, OnErr}
use Rattle.sc_base.specs.declared.stop.TrapReason.{TrapReason}
use Rattle.sc_registers.specs.Registers.{at}
use Rattle.sc_registers.specs.declared.registers.Core.{Core}
use Rattle.sc_machine.specs.declared.hart.Hart.{Hart}
use Rattle.sc_machine.specs.Place.{IsPlace, Site}

-- a state in which this compartment is active, and one that has this memory, too
abbrev pub comp_in : ℕ → MachineState → MachineState
comp_in c state = record state { active = c }

abbrev pub active_in : ℕ → ByteMemory → MachineState → MachineState
active_in c memory state = record state { active = c; memory = memory }

-- and one that has these registers and this pc, too
abbrev pub running : ℕ → ByteMemory → Core → MachineState → MachineState
running c memory core state = at (active_in c memory state) core

-- the state of a machine with this memory
abbrev pub state_in : ByteMemory → Hart → MachineState
state_in memory hart = record {
  regs = hart.core.registers;
  pc = hart.core.pc;
  active = hart.active;
  saved = hart.saved.items;
  zones = hart.zones.blocks;
  memory = memory;
  cross = hart.cross.calls;
  input = hart.input;
  trace = hart.trace.items;
}

-- what an instruction's answer says that it did, where this is the state after it
abbrev pub outcome_of : {A : Type 0} → Result A TrapReason → MachineState → Outcome
outcome_of (Ok _) state = Goes state
outcome_of (Err reason) state = Traps reason

-- the active compartment and those that wait are the image's, each of its compartments has a saved sp, those with a
-- heap have a zone, and each input that was read is in the trace
pub record IsSound (image : ImageParts) (hart : Hart) : Type 0 where
  pub place : IsPlace image hart.active
  pub callers : All (λ call. call.caller < length image.comps) hart.cross.calls
  pub saved : length hart.saved.items ≡ length image.comps
  pub zones : hart.zones.there ≡ map (λ comp. comp.heap) image.comps
  pub input : hart.input ≤ length hart.trace.items

-- there is room for a trace of `events` events, and for as many calls as it may still get
pub record HasRoom (events : ℕ) (hart : Hart) : Type 0 where
  pub trace : events ≤ vec_capacity hart.trace
  pub cross : events ≤ length hart.trace.items + hart.cross.room

-- there is room for one more event, and for a call
pub record HasRoomForOne (hart : Hart) : Type 0 where
  pub trace : length hart.trace.items < vec_capacity hart.trace
  pub cross : 0 < hart.cross.room

-- a hart that an instruction of this compartment's code can change: its code runs, and there is room for what the
-- instruction emits
pub record IsReady (site : Site) (hart : Hart) : Type 0 where
  pub here : site.comp ≡ hart.active
  pub sound : IsSound site.image hart
  pub room : HasRoomForOne hart

-- what an instruction leaves so: a hart of the image, with room for all the events that there was room for
pub record StaysSound (image : ImageParts) (before after : Hart) : Type 0 where
  pub sound : IsSound image after
  pub room : (events : ℕ) → HasRoom events before → HasRoom events after

-- what an instruction leaves, by its answer: a trap changes nothing
pub record LeavesSound {A : Type 0} (image : ImageParts) (result : Result A TrapReason)
    (before after : Hart) : Type 0 where
  pub trap : OnErr result (after ≡ before)
  pub stays : StaysSound image before after

-- there is a byte where there was one at the start, and nowhere else
abbrev pub IsBacked : ImageParts → ByteMemory → Type 0
IsBacked image memory = (address : ℕ) → is_some (memory address) ≡ is_some (start_memory image address)

-- a hart and a memory that a run of the image can go on from, with room for `events` events in the whole trace
pub record CanRun (image : ImageParts) (events : ℕ) (hart : Hart) (memory : ByteMemory) : Type 0 where
  pub room : HasRoom events hart
  pub sound : IsSound image hart
  pub backed : IsBacked image memory
