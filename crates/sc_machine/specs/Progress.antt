-- A loaded machine, as contracts see it.
use Rattle.sc_machine.specs.Common.{Crossing, ImageParts, ByteMemory, MachineRun, MachineState}
use Rattle.std.specs.Prelude.{ℕ, List}
use Rattle.sc_event.specs.declared.event.Event.{Event}
use Rattle.sc_zone.specs.declared.span.Span.{Span}
use Rattle.sc_base.specs.declared.stop.Stop.{Stop}

-- what a machine was loaded with, and how far its run is
pub record Progress (S : Type 0) : Type 0 where
  pub image : ImageParts
  pub inputs : List ℕ
  pub events : ℕ
  -- x0 to x31
  pub registers : List ℕ
  pub pc : ℕ
  pub active : ℕ
  -- of each compartment, the sp that it gets at its next call
  pub saved : List ℕ
  -- of each compartment, the live blocks of its zone
  pub zones : List (List Span)
  -- the calls of other compartments that haven't returned, the latest first
  pub cross : List Crossing
  -- how many inputs were read
  pub input : ℕ
  pub trace : List Event
  -- what keeps its data
  pub store : S
  -- why it stopped at last, and `StepsOut` before the first step
  pub stop : Stop
  -- how many steps the latest call took
  pub taken : ℕ

-- its state, by the bytes of its store
abbrev pub state_of : {S : Type 0} → (S → ByteMemory) → Progress S → MachineState
state_of bytes machine = record {
  regs = machine.registers;
  pc = machine.pc;
  active = machine.active;
  saved = machine.saved;
  zones = machine.zones;
  memory = bytes machine.store;
  cross = machine.cross;
  input = machine.input;
  trace = machine.trace;
}

-- its run so far
abbrev pub run_of : {S : Type 0} → (S → ByteMemory) → Progress S → MachineRun
run_of bytes machine = record { state = state_of bytes machine; stop = machine.stop }

-- a machine, and one of the compartments of its image
pub record Part (S : Type 0) : Type 0 where
  pub machine : Progress S
  pub comp : ℕ
