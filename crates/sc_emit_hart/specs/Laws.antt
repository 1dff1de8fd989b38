-- Helping: what holds of code and of words in memory.
use Rattle.sc_emit_hart.specs.Common.{ImageParts, Instr, IsInstr, ByteMemory, code_in, code_start, word_of}
use Rattle.std.specs.Prelude.{◌≡◌, ℕ, ◌+◌, ◌*◌, ◌^◌, ◌<◌, List, ◌++◌, length, map, All}
use Rattle.sc_emit_hart.specs.Code.{CodeAt}
use Rattle.sc_emit_hart.specs.Words.{word, put_word, Apart}

abbrev pub CodeIsFetched : Type 0
CodeIsFetched =
    (image : ImageParts) (c : ℕ) (instrs : List Instr) (before after : List ℕ) → All IsInstr instrs →
    code_in image c ≡ before ++ (map word_of instrs ++ after) →
    CodeAt image c (code_start c + 4 * length before) instrs

pub record WordsAreKept : Type 0 where
  pub same : (memory : ByteMemory) (a value : ℕ) → value < 2 ^ 32 → word (put_word memory a value) a ≡ value
  pub apart : (memory : ByteMemory) (a value b : ℕ) → Apart b a → word (put_word memory a value) b ≡ word memory b
