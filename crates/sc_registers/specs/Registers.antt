-- The registers and the pc, as parts of a machine's state.
use Rattle.sc_image.specs.Prelude.{MachineState, written}
use Rattle.std.specs.Prelude.{ℕ, ◌+◌}
use Rattle.sc_registers.specs.declared.registers.Core.{Core}

-- a state with these registers and this pc
abbrev pub at : MachineState → Core → MachineState
at state core = record state { regs = core.registers; pc = core.pc }

-- the registers with a word in one of them, and the pc at the next instruction
abbrev pub written_at_next : Core → (rd word : ℕ) → Core
written_at_next core rd word = record { registers = written core.registers rd word; pc = core.pc + 4 }

-- the address of the next instruction in one of the registers, and the pc elsewhere
abbrev pub linked : Core → (rd target : ℕ) → Core
linked core rd target = record { registers = written core.registers rd (core.pc + 4); pc = target }

-- the pc at the next instruction
abbrev pub advanced : Core → Core
advanced core = record { registers = core.registers; pc = core.pc + 4 }
