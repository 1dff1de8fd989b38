-- Instructions at an address of a compartment's code.
use Rattle.sc_emit_hart.specs.Common.{ImageParts, Instr, decoded, word_at}
use Rattle.std.specs.Prelude.{◌≡◌, ℕ, ◌+◌, List, [], ◌∷◌, Some}

-- compartment c has this instruction at this address
pub record Fetches (image : ImageParts) (c pc : ℕ) (instr : Instr) : Type 0 where
  pub word : ℕ
  pub fetched : word_at image c pc ≡ Some word
  pub decodes : decoded word ≡ Some instr

-- compartment c has these instructions from this address on
abbrev pub CodeAt : ImageParts → (c pc : ℕ) → List Instr → Type 0
CodeAt image c pc [] = Unit {0}
CodeAt image c pc (instr ∷ instrs) = Fetches image c pc instr × CodeAt image c (pc + 4) instrs
