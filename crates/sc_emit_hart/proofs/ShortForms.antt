-- An operator whose second operand is a constant is one instruction, which computes the operator's word.
use Rattle.sc_emit_hart.proofs.Common.{Addi, Andi, BinaryOp, Bool, Computes, ImageParts, IsWritable, List, ByteMemory}
use Rattle.sc_emit_hart.proofs.Common.{None}
use Rattle.sc_emit_hart.proofs.Common.{OpImmOp, Option, Ori, Registers, Slti, Sltiu, Some, TacOp, World, Xori, []}
use Rattle.sc_emit_hart.proofs.Common.{add_word, ap, arith, binary_short, bytes_of, op_result, false, if◌then◌else◌}
use Rattle.sc_emit_hart.proofs.Common.{is_short, is_unsigned, look, mul_word, on_all_words, on_registers, op_word, pos}
use Rattle.sc_emit_hart.proofs.Common.{refl, short, short_code, short_form, signed_of, signed_wraps, sub_word, subst}
use Rattle.sc_emit_hart.proofs.Common.{sym, true, word_of-lt, word_of-unsigned_sub, ℕ, ◌%◌, ◌+◌, ◌-ℤ◌, ◌-◌, ◌<◌, ◌^◌}
use Rattle.sc_emit_hart.proofs.Common.{◌∙◌, ◌≡◌}
use Rattle.sc_base.specs.declared.op.BinaryOp.TheVariants as op
use Rattle.sc_tac.specs.declared.stmt.TacOp.TheVariants as tacop
use Rattle.sc_emit_select.specs.declared.operators.ShortForm.{ShortForm}
use Rattle.sc_emit_hart.proofs.Numbers.{word_of-signed_of}
use Rattle.sc_emit_hart.proofs.Rows.{with_number}

-- to add the negation of a word is to subtract it
negated : (a b : ℕ) → a < 2 ^ 32 → b < 2 ^ 32 → add_word a (sub_word 0 b) ≡ sub_word a b
negated a b h k =
    ap (add_word a) (word_of-unsigned_sub 0 b (omega arith) k) ∙
    (let sum : (a + (0 + (2 ^ 32 - b)) % 2 ^ 32) % 2 ^ 32 ≡ (a + (2 ^ 32 - b)) % 2 ^ 32 = omega arith in sum) ∙
    sym (word_of-unsigned_sub a b h k)

negation_below : (b : ℕ) → sub_word 0 b < 2 ^ 32
negation_below b = word_of-lt (pos 0 -ℤ pos b)

module _ (image : ImageParts) (inputs : List ℕ) (world : World) (memory : ByteMemory) (regs : Registers)
    (rd left a b : ℕ) (writable : IsWritable rd) (below : left < 32) (is : look regs left ≡ a) (left_word : a < 2 ^ 32)
    (right_word : b < 2 ^ 32) where
  abbrev Gives : ShortForm → ℕ → Type 0
  Gives form v = Computes image inputs world (short_code rd left (Some form)) [] regs memory rd v

  -- by the word that the immediate is
  by_word : (o : OpImmOp) (w v : ℕ) (form : ShortForm) → w < 2 ^ 32 → op_result (on_registers o) a w ≡ v →
      short o w ≡ Some form → Gives form v
  by_word o w v form h e found = by (is_short w) found
    where
      by : (b : Bool) → (if b then Some (record { op = o; imm = signed_of w }) else None) ≡ Some form → Gives form v
      by true found =
          let same : ◌≡◌ {A = ShortForm} (record { op = o; imm = signed_of w }) form = cc found in
          subst (λ form. Gives form v) same
          (with_number image inputs world regs memory o rd left (signed_of w) a v writable below is
          (ap (op_result (on_registers o) a) (word_of-signed_of w h) ∙ e))
      by false found = cc found

  by_binary : (unsigned : Bool) (o : BinaryOp) (form : ShortForm) → binary_short unsigned o b ≡ Some form →
      Gives form (on_all_words unsigned o a b)
  by_binary unsigned op.BitOr form h = by_word Ori b _ form right_word refl h
  by_binary unsigned op.BitXor form h = by_word Xori b _ form right_word refl h
  by_binary unsigned op.BitAnd form h = by_word Andi b _ form right_word refl h
  by_binary true op.Less form h = by_word Sltiu b _ form right_word refl h
  by_binary false op.Less form h = by_word Slti b _ form right_word refl h
  by_binary true op.Add form h = by_word Addi b _ form right_word refl h
  by_binary false op.Add form h =
      by_word Addi b _ form right_word (sym (signed_wraps.sum a b left_word right_word)) h
  by_binary true op.Sub form h =
      by_word Addi (sub_word 0 b) _ form (negation_below b) (negated a b left_word right_word) h
  by_binary false op.Sub form h =
      by_word Addi (sub_word 0 b) _ form (negation_below b)
      (negated a b left_word right_word ∙ sym (signed_wraps.difference a b left_word right_word)) h
  by_binary unsigned op.OrElse form h = cc h
  by_binary unsigned op.AndAlso form h = cc h
  by_binary unsigned op.Equal form h = cc h
  by_binary unsigned op.NotEqual form h = cc h
  by_binary unsigned op.Greater form h = cc h
  by_binary unsigned op.LessEqual form h = cc h
  by_binary unsigned op.GreaterEqual form h = cc h
  by_binary unsigned op.ShiftLeft form h = cc h
  by_binary unsigned op.ShiftRight form h = cc h
  by_binary unsigned op.Mul form h = cc h
  by_binary unsigned op.Div form h = cc h
  by_binary unsigned op.Rem form h = cc h

  bytes_below : (cells : ℕ) → mul_word b (bytes_of cells) < 2 ^ 32
  bytes_below cells = omega arith

  -- the short form of an operator computes its word
  pub gives_short : (o : TacOp) (form : ShortForm) → short_form o b ≡ Some form → Gives form (op_word o a b)
  gives_short (tacop.Binary o scalar) form h = by_binary (is_unsigned scalar) o form h
  gives_short (tacop.PointerMove true cells index) form h =
      let bytes : ℕ = mul_word b (bytes_of cells) in
      by_word Addi (sub_word 0 bytes) _ form (negation_below bytes)
      (negated a bytes left_word (bytes_below cells)) h
  gives_short (tacop.PointerMove false cells index) form h =
      by_word Addi (mul_word b (bytes_of cells)) _ form (bytes_below cells) refl h
  gives_short (tacop.Unary o scalar) form h = cc h
  gives_short tacop.PointerNot form h = cc h
  gives_short (tacop.PointerMember offset) form h = cc h
  gives_short (tacop.PointerDifference cells) form h = cc h
  gives_short (tacop.PointerCompare o) form h = cc h
