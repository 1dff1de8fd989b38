-- A stack that has no room for one more frame.
use Rattle.sc_emit_hart.specs.Common.{ImageParts, MachineState, data_start, frame_taken, ra, reg, sp, stack_top}
use Rattle.std.specs.Prelude.{◌≡◌, ℕ, ◌+◌, ◌*◌, ◌%◌, ◌^◌, ◌<◌, ◌≤◌, length, pos}
use Rattle.rv_code.specs.declared.instr.Instr.TheVariants.{Store}
use Rattle.rv_code.specs.declared.instr.StoreOp.TheVariants.{Sw}
use Rattle.sc_emit_hart.specs.Code.{CodeAt, Fetches}

-- The active compartment stands at the store of ra with which a function begins. Its sp has come down by the bytes of a
-- frame, from a place in its stack to one below all its data.
pub record LacksRoom (image : ImageParts) (s : MachineState) : Type 0 where
  pub stores : Fetches image s.active s.pc (Store Sw sp ra (pos 0))
  pub bytes : ℕ
  pub sp_before : ℕ
  pub inside : (data_start s.active ≤ sp_before) × (sp_before ≤ stack_top s.active)
  pub lowered : (reg s sp + bytes) % 2 ^ 32 ≡ sp_before
  pub below : sp_before < data_start s.active + bytes

-- it stands at the last instruction of the code that takes a frame of these bytes
pub record TakesLast (image : ImageParts) (bytes : ℕ) (s : MachineState) : Type 0 where
  pub begins : ℕ
  pub code : CodeAt image s.active begins (frame_taken bytes)
  pub last : s.pc + 4 ≡ begins + 4 * length (frame_taken bytes)
