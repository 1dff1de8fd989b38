-- Words of four bytes. Two laws are all that proofs about code use of them, so these definitions stay shut.
use Rattle.sc_emit_hart.specs.Common.{ImageParts, ByteMemory, data_end, data_start, load_of, with_bytes}
unfoldable use Rattle.sc_emit_hart.specs.Common.{are_data}
use Rattle.std.specs.Prelude.{◌≡◌, ℕ, ◌+◌, ◌%◌, ◌≤◌, ◌⊎◌, true}

-- the word at an address
unfoldable pub word : ByteMemory → ℕ → ℕ
word memory a = load_of memory a 4

-- the memory with a word at an address
unfoldable pub put_word : ByteMemory → (a value : ℕ) → ByteMemory
put_word memory a value = with_bytes memory a 4 value

-- two words that don't meet
abbrev pub Apart : ℕ → ℕ → Type 0
Apart a b = (a + 4 ≤ b) ⊎ (b + 4 ≤ a)

-- a whole aligned word of c's data
pub record Owned (image : ImageParts) (c a : ℕ) : Type 0 where
  pub aligned : a % 4 ≡ 0
  pub low : data_start c ≤ a
  pub high : a + 4 ≤ data_end c
  pub its : are_data image c a 4 ≡ true
