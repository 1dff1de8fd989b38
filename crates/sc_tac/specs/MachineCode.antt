-- What the code of a function keeps.
use Rattle.std.specs.Prelude.{◌<◌, ℕ, suc, Bool, true, false, ◌==◌, List, length, All, AllPairs, Option, None, Some}
use Rattle.std.specs.Prelude.{slice_get, IsTrue}
use Rattle.rv_code.specs.declared.instr.Instr.{Instr}
use Rattle.rv_code.specs.declared.instr.Instr.TheVariants.{Upper, Jal, Jalr, OpImm}
use Rattle.rv_code.specs.declared.instr.UpperOp.TheVariants.{Lui}
use Rattle.rv_code.specs.declared.instr.OpImmOp.TheVariants.{Addi}
use Rattle.sc_tac.specs.declared.machine_code.CodeTree.{CodeTree}
use Rattle.sc_tac.specs.declared.machine_code.Relocation.{Relocation}
use Rattle.sc_tac.specs.declared.machine_code.Target.{Target}
use Rattle.sc_tac.specs.declared.machine_code.Target.TheVariants.{Function, Entry, Global}

abbrev pub is_jal : Option Instr → Bool
is_jal (Some (Jal rd imm)) = true
is_jal _ = false

-- it adds its low 12 bits to this register
abbrev pub adds_low : ℕ → Option Instr → Bool
adds_low base (Some (OpImm Addi rd rs1 imm)) = rs1 == base
adds_low base (Some (Jalr rd rs1 imm)) = rs1 == base
adds_low base _ = false

-- an address in two parts: the first instruction loads the high 20 bits, the second adds the low 12
abbrev pub is_address : Option Instr → Option Instr → Bool
is_address (Some (Upper Lui rd imm)) next = adds_low rd next
is_address _ next = false

-- the linker can complete the instructions at a place
abbrev pub is_linkable : List Instr → ℕ → Target → Bool
is_linkable instrs at (Function number) = is_jal (slice_get instrs at)
is_linkable instrs at (Entry comp index) = is_address (slice_get instrs at) (slice_get instrs (suc at))
is_linkable instrs at (Global number) = is_address (slice_get instrs at) (slice_get instrs (suc at))

-- there is code, relocations stand in order, and each where the linker can complete it
pub record IsCode (code : CodeTree) : Type 0 where
  pub some : 0 < length code.instrs
  pub in_order : AllPairs {X = Relocation} (λ a b. a.at < b.at) code.relocations
  pub linkable : All {X = Relocation} (λ r. IsTrue (is_linkable code.instrs r.at r.target)) code.relocations
