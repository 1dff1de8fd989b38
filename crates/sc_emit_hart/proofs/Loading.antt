-- Words loaded, and registers moved.
use Rattle.sc_emit_hart.proofs.Common.{Add, Addi, Bool, Computes, ImageParts, IsWritable, List, Lui, ByteMemory, Op}
use Rattle.sc_emit_hart.proofs.Common.{OpImm}
use Rattle.sc_emit_hart.proofs.Common.{Registers, Upper, World, [], add_word, ap, arith, false, if◌then◌else◌, is_short}
use Rattle.sc_emit_hart.proofs.Common.{loading, look, lower_part, move, moved_by, pos, refl, signed_of, true}
use Rattle.sc_emit_hart.proofs.Common.{upper_part, word_of, ℕ, ◌++◌, ◌<◌, ◌^◌, ◌∙◌, ◌∷◌, ◌≡◌, ◌≢◌}
use Rattle.sc_emit_hart.proofs.Rows.{followed_by, computes, look_at, looked, upper, with_number, of_two}
use Rattle.sc_emit_hart.proofs.Numbers.{word_of-signed_of, two_parts}

-- the register for addresses and constants
scratch_writable : IsWritable 7
scratch_writable = omega arith

module _ (image : ImageParts) (inputs : List ℕ) (world : World) (memory : ByteMemory) where
  pub moves : (regs : Registers) (rd rs a : ℕ) → IsWritable rd → rs < 32 → look regs rs ≡ a → a < 2 ^ 32 →
      Computes image inputs world (move rd rs ∷ []) [] regs memory rd a
  moves regs rd rs a h k is below =
      with_number image inputs world regs memory Addi rd rs (pos 0) a a h k is (omega arith)

  pub loads_long : (regs : Registers) (rd w : ℕ) → IsWritable rd → w < 2 ^ 32 →
      Computes image inputs world (Upper Lui rd (upper_part w) ∷ OpImm Addi rd rd (lower_part w) ∷ []) [] regs memory
      rd w
  loads_long regs rd w h below =
      let first = upper image inputs world regs memory rd (upper_part w) h in
      let second = with_number image inputs world first.after memory Addi rd rd (lower_part w) (upper_part w) w h
      h.below
      (look_at first.after rd h.above ∙ first.result) (two_parts w below) in
      computes image inputs world [] w (followed_by image inputs world first second) refl (λ q k. (k.0, (k.0, tt)))

  loads_by : (b : Bool) (regs : Registers) (rd w : ℕ) → IsWritable rd → w < 2 ^ 32 →
      Computes image inputs world (if b then OpImm Addi rd 0 (signed_of w) ∷ []
      else Upper Lui rd (upper_part w) ∷ OpImm Addi rd rd (lower_part w) ∷ []) [] regs memory rd w
  loads_by true regs rd w h below =
      let whole : word_of (signed_of w) ≡ w = word_of-signed_of w below in
      with_number image inputs world regs memory Addi rd 0 (signed_of w) 0 w h (omega arith) refl
      (rw whole (omega arith))
  loads_by false regs rd w h below = loads_long regs rd w h below

  pub loads_number : (regs : Registers) (rd w : ℕ) → IsWritable rd → w < 2 ^ 32 →
      Computes image inputs world (loading rd w) [] regs memory rd w
  loads_number regs rd w h below = loads_by (is_short w) regs rd w h below

  -- by way of x7
  moves_far : (regs : Registers) (rd rs bytes a : ℕ) → IsWritable rd → rs < 32 → rs ≢ 7 → look regs rs ≡ a →
      bytes < 2 ^ 32 →
      Computes image inputs world (loading 7 bytes ++ Op Add rd rs 7 ∷ []) (7 ∷ []) regs memory rd (add_word a bytes)
  moves_far regs rd rs bytes a h k not is below =
      let first = loads_number regs 7 bytes scratch_writable below in
      let second = of_two image inputs world first.after memory Add rd rs 7 a bytes (add_word a bytes) h k (omega arith)
      (looked first.after regs rs a (first.others rs (not, tt)) is) first.result refl in
      followed_by image inputs world first second

  moves_by : (b : Bool) (regs : Registers) (rd rs bytes a : ℕ) → IsWritable rd → rs < 32 → rs ≢ 7 → look regs rs ≡ a →
      bytes < 2 ^ 32 →
      Computes image inputs world (if b then OpImm Addi rd rs (signed_of bytes) ∷ []
      else loading 7 bytes ++ Op Add rd rs 7 ∷ []) (7 ∷ []) regs memory rd (add_word a bytes)
  moves_by true regs rd rs bytes a h k not is below =
      let whole : word_of (signed_of bytes) ≡ bytes = word_of-signed_of bytes below in
      let near = with_number image inputs world regs memory Addi rd rs (signed_of bytes) a (add_word a bytes) h k is
      (ap (add_word a) whole) in
      computes image inputs world (7 ∷ []) (add_word a bytes) near refl (λ q k. (k.0, tt))
  moves_by false regs rd rs bytes a h k not is below = moves_far regs rd rs bytes a h k not is below

  -- a register plus a number of bytes
  pub moves_on : (regs : Registers) (rd rs bytes a : ℕ) → IsWritable rd → rs < 32 → rs ≢ 7 → look regs rs ≡ a →
      bytes < 2 ^ 32 →
      Computes image inputs world (moved_by rd rs bytes) (7 ∷ []) regs memory rd (add_word a bytes)
  moves_on regs rd rs bytes a h k not is below = moves_by (is_short bytes) regs rd rs bytes a h k not is below
