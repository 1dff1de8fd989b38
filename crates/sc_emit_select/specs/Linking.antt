-- Lines of code as the linker completes them: with the addresses of what they refer to.
use Rattle.sc_emit_select.specs.Common.{CodeTree, Entry, Function, Global, Instr, Jal, Jalr, OpImm, Relocation, Target}
use Rattle.sc_emit_select.specs.Common.{Upper}
use Rattle.std.specs.Prelude.{ℕ, suc, pos, ◌+◌, ◌-ℤ◌, ◌==◌, if◌then◌else◌, Bool, List, [], ◌∷◌, Option, None, Some}
use Rattle.std.specs.List.{list_all}
use Rattle.sc_emit_select.specs.Lines.{Line}
use Rattle.sc_emit_select.specs.Pieces.{upper_part, lower_part}

-- where what a compartment's code refers to begins: its functions, the entries of others, its globals
pub record Addresses : Type 0 where
  pub function : (number : ℕ) → ℕ
  pub entry : (comp index : ℕ) → ℕ
  pub global : (number : ℕ) → ℕ

-- the instruction after a LUI of an address adds its low 12 bits
abbrev pub with_low : Option ℕ → Instr → Instr
with_low (Some address) (OpImm op rd rs1 imm) = OpImm op rd rs1 (lower_part address)
with_low (Some address) (Jalr rd rs1 imm) = Jalr rd rs1 (lower_part address)
with_low low instr = instr

module _ (addresses : Addresses) where
  -- a jump to a function is as far as that is from pc; a LUI loads the high 20 bits
  abbrev pub with_target : (pc : ℕ) → Option Target → Instr → Instr
  with_target pc (Some (Function number)) (Jal rd imm) = Jal rd (pos (addresses.function number) -ℤ pos pc)
  with_target pc (Some (Entry comp index)) (Upper op rd imm) = Upper op rd (upper_part (addresses.entry comp index))
  with_target pc (Some (Global number)) (Upper op rd imm) = Upper op rd (upper_part (addresses.global number))
  with_target pc target instr = instr

  -- the address whose low 12 bits the next line adds
  abbrev pub low_of_target : Option Target → Option ℕ
  low_of_target (Some (Entry comp index)) = Some (addresses.entry comp index)
  low_of_target (Some (Global number)) = Some (addresses.global number)
  low_of_target target = None

  -- the instructions of lines from pc on
  abbrev pub completed : (pc : ℕ) → Option ℕ → List Line → List Instr
  completed pc low [] = []
  completed pc low (line ∷ lines) =
      with_low low (with_target pc line.target line.instr) ∷ completed (pc + 4) (low_of_target line.target) lines

  -- what the line after these adds
  abbrev pub low_after : Option ℕ → List Line → Option ℕ
  low_after low [] = low
  low_after low (line ∷ lines) = low_after (low_of_target line.target) lines

  -- The same by the relocations of code, whose instructions are counted from a number on.

  -- what the instruction at a number refers to, where it is the next to refer to something; and the relocations after
  -- it
  abbrev pub target_at : ℕ → List Relocation → Option Target
  target_at at [] = None
  target_at at (relocation ∷ relocations) = if relocation.at == at then Some relocation.target else None

  abbrev pub relocations_after : ℕ → List Relocation → List Relocation
  relocations_after at [] = []
  relocations_after at (relocation ∷ relocations) =
      if relocation.at == at then relocations else relocation ∷ relocations

  abbrev pub linked_from : (pc at : ℕ) → Option ℕ → List Instr → List Relocation → List Instr
  linked_from pc at low [] relocations = []
  linked_from pc at low (instr ∷ instrs) relocations =
      with_low low (with_target pc (target_at at relocations) instr) ∷
      linked_from (pc + 4) (suc at) (low_of_target (target_at at relocations)) instrs (relocations_after at relocations)

  -- the code of a function as it stands at an address
  abbrev pub linked : (address : ℕ) → CodeTree → List Instr
  linked address code = linked_from address 0 None code.instrs code.relocations

-- no relocation names a function, an entry or a global but those that pass these tests
module _ (function : ℕ → Bool) (entry : (comp index : ℕ) → Bool) (global : ℕ → Bool) where
  abbrev pub is_named : Target → Bool
  is_named (Function number) = function number
  is_named (Entry comp index) = entry comp index
  is_named (Global number) = global number

  abbrev pub refers_only : CodeTree → Bool
  refers_only code = list_all {X = Relocation} (λ relocation. is_named relocation.target) code.relocations
