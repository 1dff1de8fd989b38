-- Lines of code.
use Rattle.sc_emit_select.specs.Common.{CodeTree, Instr, Relocation, Target}
use Rattle.std.specs.Prelude.{ℕ, suc, Bool, List, [], ◌∷◌, ◌++◌, map, Option, None, Some}

-- an instruction, and what it refers to that the linker knows
pub record Line : Type 0 where
  pub instr : Instr
  pub target : Option Target

abbrev pub plain : Instr → Line
plain instr = record { instr = instr; target = None }

abbrev pub plainly : List Instr → List Line
plainly instrs = map plain instrs

abbrev pub referring : Target → Instr → Line
referring target instr = record { instr = instr; target = Some target }

-- Helping: lines from their instructions and targets
abbrev pub lines_of : List Instr → List (Option Target) → List Line
lines_of [] targets = []
lines_of (instr ∷ instrs) [] = []
lines_of (instr ∷ instrs) (target ∷ targets) = record { instr = instr; target = target } ∷ lines_of instrs targets

abbrev pub relocation_of : ℕ → Option Target → List Relocation
relocation_of at None = []
relocation_of at (Some target) = record { at = at; target = target } ∷ []

-- the relocations of lines that are counted from a number on
abbrev pub relocations_from : ℕ → List Line → List Relocation
relocations_from at [] = []
relocations_from at (line ∷ lines) = relocation_of at line.target ++ relocations_from (suc at) lines

abbrev pub code_of_lines : (heap : Bool) → List Line → CodeTree
code_of_lines heap lines =
    record { instrs = map (λ line. line.instr) lines; relocations = relocations_from 0 lines; heap = heap }
