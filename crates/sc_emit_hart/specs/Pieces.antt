-- Helping: what straight code does wherever it stands, an instruction a step: to the registers and to memory.
use Rattle.sc_emit_hart.specs.Common.{ImageParts, Instr, ByteMemory, Walks, sp}
use Rattle.sc_emit_hart.specs.Code.{CodeAt}
use Rattle.sc_emit_hart.specs.Words.{Owned, put_word}
use Rattle.sc_emit_hart.specs.Hart.{Registers, World, at}
use Rattle.std.specs.Prelude.{◌≡◌, ◌≢◌, ℕ, ◌+◌, ◌*◌, ◌^◌, ◌<◌, List, [], ◌∷◌, length}

-- a register is none of these
abbrev pub Besides : List ℕ → ℕ → Type 0
Besides [] q = Unit {0}
Besides (r ∷ rs) q = (q ≢ r) × Besides rs q

-- x1 to x31
pub record IsWritable (r : ℕ) : Type 0 where
  pub above : 0 < r
  pub below : r < 32

-- a word so far from the stack pointer
pub record IsFromSp (image : ImageParts) (world : World) (regs : Registers) (offset a : ℕ) : Type 0 where
  pub sum : regs sp + offset ≡ a
  pub below : a < 2 ^ 32
  pub owned : Owned image world.active a

module _ (image : ImageParts) (inputs : List ℕ) (world : World) where
  -- code leads from registers and a memory to those after it
  pub record Does (code : List Instr) (regs : Registers) (memory : ByteMemory) (after : Registers) (left : ByteMemory) :
      Type 0 where
    pub walks : (pc : ℕ) → CodeAt image world.active pc code →
        Walks image inputs (length code) (at pc regs memory world) (at (pc + 4 * length code) after left world)

  -- code computes a word into a register; what other registers hold stays, but for these
  pub record Computes (code : List Instr) (scratch : List ℕ) (regs : Registers) (memory : ByteMemory) (rd value : ℕ) :
      Type 0 where
    pub after : Registers
    pub does : Does code regs memory after memory
    pub result : after rd ≡ value
    pub others : (q : ℕ) → Besides (rd ∷ scratch) q → after q ≡ regs q

  -- code stores a word at an address; what registers hold stays, but for these
  pub record Stores (code : List Instr) (scratch : List ℕ) (regs : Registers) (memory : ByteMemory) (a value : ℕ) :
      Type 0 where
    pub after : Registers
    pub does : Does code regs memory after (put_word memory a value)
    pub others : (q : ℕ) → Besides scratch q → after q ≡ regs q
