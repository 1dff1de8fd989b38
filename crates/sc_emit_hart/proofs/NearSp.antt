-- Words of the frame, near the stack pointer and far from it.
use Rattle.sc_emit_hart.proofs.Common.{Add, Bool, Computes, ImageParts, IsFromSp, IsWritable, List, Load, Lw}
use Rattle.sc_emit_hart.proofs.Common.{ByteMemory}
use Rattle.sc_emit_hart.proofs.Common.{Registers, Store, Stores, Sw, World, [], add_word, ap, arith, false, far_from_sp}
use Rattle.sc_emit_hart.proofs.Common.{if◌then◌else◌, is_short, load_word, look, lower_part, refl, signed_of}
use Rattle.sc_emit_hart.proofs.Common.{store_word, true, upper_part, word, word_of, ℕ, ◌++◌, ◌+◌, ◌<◌, ◌^◌, ◌∙◌, ◌∷◌}
use Rattle.sc_emit_hart.proofs.Common.{◌≡◌, ◌≢◌}
use Rattle.sc_emit_hart.proofs.Rows.{followed_by, stores_after, computes, stored, looked, upper, of_two, loads, stores}
use Rattle.sc_emit_hart.proofs.Numbers.{word_of-signed_of, parts}

module _ (image : ImageParts) (inputs : List ℕ) (world : World) (memory : ByteMemory) where
  -- all of the address but for what the access adds
  comes_near : (regs : Registers) (offset : ℕ) →
      Computes image inputs world (far_from_sp offset) [] regs memory 7 (add_word (upper_part offset) (regs 2))
  comes_near regs offset =
      let first = upper image inputs world regs memory 7 (upper_part offset) (omega arith) in
      let second = of_two image inputs world first.after memory Add 7 7 2 (upper_part offset) (regs 2)
      (add_word (upper_part offset) (regs 2)) (omega arith) (omega arith) (omega arith) first.result
      (first.others 2 (omega arith)) refl in
      computes image inputs world [] (add_word (upper_part offset) (regs 2))
      (followed_by image inputs world first second) refl (λ q k. (k.0, (k.0, tt)))

  far_address : (regs : Registers) (offset a : ℕ) → IsFromSp image world regs offset a →
      add_word (add_word (upper_part offset) (regs 2)) (word_of (lower_part offset)) ≡ a
  far_address regs offset a at =
      let sum : regs 2 + offset ≡ a = at.sum in
      let below : a < 2 ^ 32 = at.below in
      parts offset (regs 2) (omega arith) (omega arith) ∙ omega arith

  near_address : (regs : Registers) (offset a : ℕ) → IsFromSp image world regs offset a →
      add_word (regs 2) (word_of (signed_of offset)) ≡ a
  near_address regs offset a at =
      let sum : regs 2 + offset ≡ a = at.sum in
      let below : a < 2 ^ 32 = at.below in
      ap (add_word (regs 2)) (word_of-signed_of offset (omega arith)) ∙ omega arith

  loads_by : (b : Bool) (regs : Registers) (rd offset a : ℕ) → IsWritable rd → IsFromSp image world regs offset a →
      Computes image inputs world (if b then Load Lw rd 2 (signed_of offset) ∷ []
      else far_from_sp offset ++ Load Lw rd 7 (lower_part offset) ∷ []) (7 ∷ []) regs memory rd (word memory a)
  loads_by true regs rd offset a h at =
      let near = loads image inputs world regs memory rd 2 (signed_of offset) a h (omega arith)
      (near_address regs offset a at) at.owned in
      computes image inputs world (7 ∷ []) (word memory a) near refl (λ q k. (k.0, tt))
  loads_by false regs rd offset a h at =
      let first = comes_near regs offset in
      let second = loads image inputs world first.after memory rd 7 (lower_part offset) a h (omega arith)
      (ap (λ x. add_word x (word_of (lower_part offset))) first.result ∙ far_address regs offset a at) at.owned in
      followed_by image inputs world first second

  -- the word at an offset from sp into a register
  pub loads_word : (regs : Registers) (rd offset a : ℕ) → IsWritable rd → IsFromSp image world regs offset a →
      Computes image inputs world (load_word rd offset) (7 ∷ []) regs memory rd (word memory a)
  loads_word regs rd offset a h at = loads_by (is_short offset) regs rd offset a h at

  stores_by : (b : Bool) (regs : Registers) (rs offset a v : ℕ) → rs < 32 → rs ≢ 7 → look regs rs ≡ v →
      IsFromSp image world regs offset a →
      Stores image inputs world (if b then Store Sw 2 rs (signed_of offset) ∷ []
      else far_from_sp offset ++ Store Sw 7 rs (lower_part offset) ∷ []) (7 ∷ []) regs memory a v
  stores_by true regs rs offset a v h not is at =
      let near = stores image inputs world regs memory 2 rs (signed_of offset) a v (omega arith) h
      (near_address regs offset a at) is at.owned in
      stored image inputs world (7 ∷ []) near (λ q k. tt)
  stores_by false regs rs offset a v h not is at =
      let first = comes_near regs offset in
      let second = stores image inputs world first.after memory 7 rs (lower_part offset) a v (omega arith) h
      (ap (λ x. add_word x (word_of (lower_part offset))) first.result ∙ far_address regs offset a at)
      (looked first.after regs rs v (first.others rs (not, tt)) is) at.owned in
      stores_after image inputs world first second

  -- a register into the word at an offset from sp
  pub stores_word : (regs : Registers) (rs offset a v : ℕ) → rs < 32 → rs ≢ 7 → look regs rs ≡ v →
      IsFromSp image world regs offset a →
      Stores image inputs world (store_word rs offset) (7 ∷ []) regs memory a v
  stores_word regs rs offset a v h not is at = stores_by (is_short offset) regs rs offset a v h not is at
