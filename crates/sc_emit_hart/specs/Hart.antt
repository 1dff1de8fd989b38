-- A hart (RISC-V Unprivileged ISA, 1.1) with its registers as a function of their numbers: what proofs about code work
-- with. The machine's state is computed from it.
use Rattle.sc_emit_hart.specs.Common.{Crossing, ByteMemory, MachineState}
use Rattle.std.specs.Prelude.{ℕ, zero, suc, List, [], ◌∷◌, nat_eq, if◌then◌else◌}
use Rattle.sc_event.specs.declared.event.Event.{Event}
use Rattle.sc_zone.specs.declared.span.Span.{Span}

abbrev pub Registers : Type 0
Registers = ℕ → ℕ

-- a function that gives this at one number
abbrev pub put : {A : Type 0} → (ℕ → A) → ℕ → A → ℕ → A
put f k v i = if nat_eq i k then v else f i

-- what is read of a register: x0 is 0
abbrev pub look : Registers → ℕ → ℕ
look regs r = if nat_eq r 0 then 0 else regs r

-- a register is written: x0 stays
abbrev pub set : Registers → ℕ → ℕ → Registers
set regs r word = if nat_eq r 0 then regs else put regs r word

-- the words of `count` registers from `first` on
abbrev pub words_from : (count first : ℕ) → Registers → List ℕ
words_from zero first regs = []
words_from (suc count) first regs = regs first ∷ words_from count (suc first) regs

-- x0 to x31
abbrev pub listed : Registers → List ℕ
listed regs = 0 ∷ words_from 31 1 regs

-- what instructions leave unchanged that are no call, return or environment call
pub record World : Type 0 where
  pub active : ℕ
  pub saved : List ℕ
  pub zones : List (List Span)
  pub cross : List Crossing
  pub input : ℕ
  pub trace : List Event

abbrev pub at : (pc : ℕ) → Registers → ByteMemory → World → MachineState
at pc regs memory world = record {
  regs = listed regs;
  pc = pc;
  active = world.active;
  saved = world.saved;
  zones = world.zones;
  memory = memory;
  cross = world.cross;
  input = world.input;
  trace = world.trace;
}
