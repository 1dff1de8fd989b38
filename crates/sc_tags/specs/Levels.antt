-- A state of the machine with regions as one with levels: the calls of its cross stack are the capabilities,
-- each of the level that it was made at.
use Rattle.sc_tags.specs.Common.{ByteMemory, Goes, MachineState, Outcome, OutcomeOf, Traps}
use Rattle.sc_gate.specs.Waiting.{call_at}
use Rattle.sc_tags.specs.Tagged.{Tagged}
use Rattle.std.specs.Prelude.{[], length}

-- the state with levels, with this for its memory
abbrev pub leveled : (ByteMemory → ByteMemory) → MachineState → Tagged
leveled memory state = record {
  core = record state { memory = memory state.memory; cross = [] };
  level = length state.cross;
  capabilities = call_at state.cross;
}

abbrev pub lifted : (ByteMemory → ByteMemory) → Outcome → OutcomeOf Tagged
lifted memory (Goes state) = Goes (leveled memory state)
lifted memory (Traps reason) = Traps reason

-- with the same memory
abbrev pub same_memory : ByteMemory → ByteMemory
same_memory memory = memory

abbrev pub with_levels : MachineState → Tagged
with_levels = leveled same_memory
