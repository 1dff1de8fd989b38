-- The code of each operator computes its word.
use Rattle.sc_emit_hart.proofs.Common.{Add, And, AreOperands, BinaryOp, Bool, Computes, Div, Divu, ImageParts, Instr}
use Rattle.sc_emit_hart.proofs.Common.{IsWritable, List, ByteMemory, Mul, Op, OpImm, OpImmOp, OpOp, Or, Registers, Rem}
use Rattle.sc_emit_hart.proofs.Common.{Remu, Shift, Sll, Slt, Sltiu, Sltu, Sra, Srl, Sub, TacOp, UnaryOp, World, Xor}
use Rattle.sc_emit_hart.proofs.Common.{Xori, [], add_word, address_scratch, ap, arith, binary_code, bit_or, bit_xor}
use Rattle.sc_emit_hart.proofs.Common.{bytes_ahead, bytes_of, op_result, div_word, eqb-true, false, if◌then◌else◌}
use Rattle.sc_emit_hart.proofs.Common.{is_unsigned, loading, mul_word, negated_word, negsuc, on_all_words, on_registers}
use Rattle.sc_emit_hart.proofs.Common.{op_code, op_word, pointer_difference, pointer_move, pos, refl, second_scratch}
use Rattle.sc_emit_hart.proofs.Common.{shift_on_registers, signed_wraps, slt_word, sltu_word, stepped_word, sub_word}
use Rattle.sc_emit_hart.proofs.Common.{sym, tests_are_words, true, truth, unary_code, unary_word, word_of, ℕ, ℤ, ◌++◌}
use Rattle.sc_emit_hart.proofs.Common.{◌-◌, ◌<◌, ◌==◌, ◌^◌, ◌∙◌, ◌∷◌, ◌≡◌}
use Rattle.rv_code.specs.declared.instr.ShiftOp.TheVariants.{Slli}
use Rattle.sc_emit_hart.proofs.Rows.{with_amount, followed_by, computes, looked, with_number, of_two}
use Rattle.sc_base.specs.declared.op.UnaryOp.TheVariants as unary
use Rattle.sc_base.specs.declared.op.BinaryOp.TheVariants as op
use Rattle.sc_tac.specs.declared.stmt.TacOp.TheVariants as tacop
use Rattle.sc_emit_hart.proofs.Loading.{moves, loads_number, moves_on}
use Rattle.sc_emit_hart.proofs.Tests.{zero_test, equal_test, unequal_test, either_test, both_test, complement}

bytes_below : (cells : ℕ) → bytes_of cells < 2 ^ 32
bytes_below cells = omega arith

module _ (image : ImageParts) (inputs : List ℕ) (world : World) (memory : ByteMemory) (regs : Registers)
    (rd left right a b : ℕ) (writable : IsWritable rd) (operands : AreOperands regs left right a b) where
  -- into rd, by way of scratch registers
  abbrev Gives : List Instr → ℕ → Type 0
  Gives code v = Computes image inputs world code (5 ∷ 6 ∷ 7 ∷ []) regs memory rd v

  single : (o : OpOp) (v : ℕ) → op_result o a b ≡ v → Gives (Op o rd left right ∷ []) v
  single o v e =
      computes image inputs world (5 ∷ 6 ∷ 7 ∷ []) v
      (of_two image inputs world regs memory o rd left right a b v writable operands.left_below operands.right_below
      operands.left_is operands.right_is e) refl (λ q k. (k.0, tt))

  swapped : (o : OpOp) (v : ℕ) → op_result o b a ≡ v → Gives (Op o rd right left ∷ []) v
  swapped o v e =
      computes image inputs world (5 ∷ 6 ∷ 7 ∷ []) v
      (of_two image inputs world regs memory o rd right left b a v writable operands.right_below operands.left_below
      operands.right_is operands.left_is e) refl (λ q k. (k.0, tt))

  -- two registers that are read first, into x5
  abbrev First : (o : OpOp) (l r x : ℕ) → Type 0
  First o l r x = Computes image inputs world (Op o 5 l r ∷ []) [] regs memory 5 x

  first : (o : OpOp) → First o left right (op_result o a b)
  first o =
      of_two image inputs world regs memory o 5 left right a b (op_result o a b) (omega arith) operands.left_below
      operands.right_below operands.left_is operands.right_is refl

  first_swapped : (o : OpOp) → First o right left (op_result o b a)
  first_swapped o =
      of_two image inputs world regs memory o 5 right left b a (op_result o b a) (omega arith) operands.right_below
      operands.left_below operands.right_is operands.left_is refl

  -- then on x5 and a number
  then_number : (o : OpOp) (l r x : ℕ) (p : OpImmOp) (imm : ℤ) (v : ℕ) → First o l r x →
      op_result (on_registers p) x (word_of imm) ≡ v → Gives (Op o 5 l r ∷ OpImm p rd 5 imm ∷ []) v
  then_number o l r x p imm v one e =
      let two = with_number image inputs world one.after memory p rd 5 imm x v writable (omega arith) one.result e in
      computes image inputs world (5 ∷ 6 ∷ 7 ∷ []) v (followed_by image inputs world one two) refl
      (λ q k. (k.0, (k.1.0, tt)))

  -- then whether x5 isn't 0
  then_zero : (o : OpOp) (l r x v : ℕ) → First o l r x → sltu_word 0 x ≡ v →
      Gives (Op o 5 l r ∷ Op Sltu rd 0 5 ∷ []) v
  then_zero o l r x v one e =
      let two = of_two image inputs world one.after memory Sltu rd 0 5 0 x v writable (omega arith) (omega arith) refl
      one.result e in
      computes image inputs world (5 ∷ 6 ∷ 7 ∷ []) v (followed_by image inputs world one two) refl
      (λ q k. (k.0, (k.1.0, tt)))

  both_code : Gives (Op Sltu 5 0 left ∷ Op Sltu 6 0 right ∷ Op And rd 5 6 ∷ []) (on_all_words false op.AndAlso a b)
  both_code =
      let x : ℕ = sltu_word 0 a in
      let y : ℕ = sltu_word 0 b in
      let one = of_two image inputs world regs memory Sltu 5 0 left 0 a x (omega arith) (omega arith)
      operands.left_below refl operands.left_is refl in
      let two = of_two image inputs world one.after memory Sltu 6 0 right 0 b y (omega arith) (omega arith)
      operands.right_below refl
      (looked one.after regs right b (one.others right (operands.right_first, tt)) operands.right_is) refl in
      let three = of_two image inputs world two.after memory And rd 5 6 x y (on_all_words false op.AndAlso a b) writable
      (omega arith) (omega arith) (two.others 5 (omega arith) ∙ one.result) two.result
      (both_test a b operands.left_word operands.right_word) in
      computes image inputs world (5 ∷ 6 ∷ 7 ∷ []) (on_all_words false op.AndAlso a b)
      (followed_by image inputs world one (followed_by image inputs world two three)) refl
      (λ q k. (k.0, (k.1.0, (k.1.1.0, tt))))

  is_zero_code : Gives (OpImm Sltiu rd left (pos 1) ∷ []) (truth (a == 0))
  is_zero_code =
      computes image inputs world (5 ∷ 6 ∷ 7 ∷ []) (truth (a == 0))
      (with_number image inputs world regs memory Sltiu rd left (pos 1) a (truth (a == 0)) writable operands.left_below
      operands.left_is (zero_test a)) refl (λ q k. (k.0, tt))

  negated : (unsigned : Bool) → sub_word 0 a ≡ negated_word unsigned a
  negated true = refl
  negated false = sym (signed_wraps.negation a operands.left_word)

  gives_unary : (unsigned : Bool) (o : UnaryOp) → Gives (unary_code rd left o) (unary_word unsigned o a)
  gives_unary unsigned unary.Minus =
      computes image inputs world (5 ∷ 6 ∷ 7 ∷ []) (negated_word unsigned a)
      (of_two image inputs world regs memory Sub rd 0 left 0 a (sub_word 0 a) writable (omega arith) operands.left_below
      refl operands.left_is refl) (negated unsigned) (λ q k. (k.0, tt))
  gives_unary unsigned unary.Plus =
      computes image inputs world (5 ∷ 6 ∷ 7 ∷ []) a
      (moves image inputs world memory regs rd left a writable operands.left_below operands.left_is operands.left_word)
      refl (λ q k. (k.0, tt))
  gives_unary unsigned unary.Not = is_zero_code
  gives_unary unsigned unary.BitNot =
      computes image inputs world (5 ∷ 6 ∷ 7 ∷ []) (2 ^ 32 - 1 - a)
      (with_number image inputs world regs memory Xori rd left (negsuc 0) a (2 ^ 32 - 1 - a) writable
      operands.left_below operands.left_is (complement a operands.left_word)) refl (λ q k. (k.0, tt))

  gives_binary : (unsigned : Bool) (o : BinaryOp) →
      Gives (binary_code rd left right unsigned o) (on_all_words unsigned o a b)
  gives_binary unsigned op.OrElse = then_zero Or left right (bit_or a b) _ (first Or) (either_test a b)
  gives_binary unsigned op.AndAlso = both_code
  gives_binary unsigned op.BitOr = single Or _ refl
  gives_binary unsigned op.BitXor = single Xor _ refl
  gives_binary unsigned op.BitAnd = single And _ refl
  gives_binary unsigned op.Equal =
      then_number Xor left right (bit_xor a b) Sltiu (pos 1) _ (first Xor) (equal_test a b)
  gives_binary unsigned op.NotEqual = then_zero Xor left right (bit_xor a b) _ (first Xor) (unequal_test a b)
  gives_binary true op.Less = single Sltu _ refl
  gives_binary false op.Less = single Slt _ refl
  gives_binary true op.Greater = swapped Sltu _ refl
  gives_binary false op.Greater = swapped Slt _ refl
  gives_binary true op.LessEqual =
      then_number Sltu right left (sltu_word b a) Xori (pos 1) _ (first_swapped Sltu)
      (sym (tests_are_words.unsigned_not_less b a operands.right_word operands.left_word))
  gives_binary false op.LessEqual =
      then_number Slt right left (slt_word b a) Xori (pos 1) _ (first_swapped Slt)
      (sym (tests_are_words.signed_not_less b a operands.right_word operands.left_word))
  gives_binary true op.GreaterEqual =
      then_number Sltu left right (sltu_word a b) Xori (pos 1) _ (first Sltu)
      (sym (tests_are_words.unsigned_not_less a b operands.left_word operands.right_word))
  gives_binary false op.GreaterEqual =
      then_number Slt left right (slt_word a b) Xori (pos 1) _ (first Slt)
      (sym (tests_are_words.signed_not_less a b operands.left_word operands.right_word))
  gives_binary true op.ShiftLeft = single Sll _ refl
  gives_binary false op.ShiftLeft =
      single Sll _ (sym (signed_wraps.left_shift a b operands.left_word operands.right_word))
  gives_binary true op.ShiftRight = single Srl _ refl
  gives_binary false op.ShiftRight = single Sra _ refl
  gives_binary true op.Add = single Add _ refl
  gives_binary false op.Add = single Add _ (sym (signed_wraps.sum a b operands.left_word operands.right_word))
  gives_binary true op.Sub = single Sub _ refl
  gives_binary false op.Sub = single Sub _ (sym (signed_wraps.difference a b operands.left_word operands.right_word))
  gives_binary true op.Mul = single Mul _ refl
  gives_binary false op.Mul = single Mul _ (sym (signed_wraps.product a b operands.left_word operands.right_word))
  gives_binary true op.Div = single Divu _ refl
  gives_binary false op.Div = single Div _ refl
  gives_binary true op.Rem = single Remu _ refl
  gives_binary false op.Rem = single Rem _ refl

  -- the bytes of `b` elements, by a shift or by a product
  times_four : mul_word b 4 ≡ op_result (shift_on_registers Slli) b 2
  times_four = omega (arith, operands.right_word)

  counts_bytes : (cells : ℕ) →
      Computes image inputs world (bytes_ahead right cells) (7 ∷ []) regs memory 6 (mul_word b (bytes_of cells))
  counts_bytes cells = by (cells == 1) refl
    where
      by : (one : Bool) → (cells == 1) ≡ one →
          Computes image inputs world (if one then Shift Slli second_scratch right 2 ∷ []
          else loading address_scratch (bytes_of cells) ++ Op Mul second_scratch right address_scratch ∷ []) (7 ∷ [])
          regs
          memory 6 (mul_word b (bytes_of cells))
      by true e =
          let four : bytes_of cells ≡ 4 = ap bytes_of (eqb-true cells 1 e) in
          computes image inputs world (7 ∷ []) (mul_word b (bytes_of cells))
          (with_amount image inputs world regs memory Slli 6 right 2 b (mul_word b 4) (omega arith) operands.right_below
          operands.right_is (sym times_four)) (ap (mul_word b) (sym four)) (λ q k. (k.0, tt))
      by false e =
          let bytes : ℕ = bytes_of cells in
          let one = loads_number image inputs world memory regs 7 bytes (omega arith) (bytes_below cells) in
          let two = of_two image inputs world one.after memory Mul 6 right 7 b bytes (mul_word b bytes) (omega arith)
          operands.right_below (omega arith)
          (looked one.after regs right b (one.others right (operands.right_address, tt)) operands.right_is) one.result
          refl in
          computes image inputs world (7 ∷ []) (mul_word b bytes) (followed_by image inputs world one two) refl
          (λ q k. (k.0, (k.1.0, tt)))

  -- the last instruction, over those bytes
  moves_elements : (o : OpOp) (cells v : ℕ) → op_result o a (mul_word b (bytes_of cells)) ≡ v →
      Gives (bytes_ahead right cells ++ Op o rd left 6 ∷ []) v
  moves_elements o cells v e =
      let one = counts_bytes cells in
      let two = of_two image inputs world one.after memory o rd left 6 a (mul_word b (bytes_of cells)) v writable
      operands.left_below (omega arith)
      (looked one.after regs left a (one.others left (operands.left_second, (operands.left_address, tt)))
      operands.left_is) one.result e in
      computes image inputs world (5 ∷ 6 ∷ 7 ∷ []) v (followed_by image inputs world one two) refl
      (λ q k. (k.0, (k.1.1.0, (k.1.1.1.0, tt))))

  gives_move : (minus : Bool) (cells : ℕ) →
      Gives (pointer_move rd left right minus cells) (stepped_word minus cells a b)
  gives_move true cells = moves_elements Sub cells (stepped_word true cells a b) refl
  gives_move false cells = moves_elements Add cells (stepped_word false cells a b) refl

  gives_difference : (cells : ℕ) →
      Gives (pointer_difference rd left right cells) (div_word (sub_word a b) (bytes_of cells))
  gives_difference cells =
      let bytes : ℕ = bytes_of cells in
      let one = first Sub in
      let two = loads_number image inputs world memory one.after 7 bytes (omega arith) (bytes_below cells) in
      let three = of_two image inputs world two.after memory Div rd 5 7 (sub_word a b) bytes
      (div_word (sub_word a b) bytes) writable (omega arith) (omega arith)
      (two.others 5 (omega arith) ∙ one.result) two.result refl in
      computes image inputs world (5 ∷ 6 ∷ 7 ∷ []) (div_word (sub_word a b) bytes)
      (followed_by image inputs world one (followed_by image inputs world two three)) refl
      (λ q k. (k.0, (k.1.0, (k.1.1.1.0, tt))))

  gives_member : (offset : ℕ) →
      Gives (op_code rd left right (tacop.PointerMember offset)) (add_word a (bytes_of offset))
  gives_member offset =
      computes image inputs world (5 ∷ 6 ∷ 7 ∷ []) (add_word a (bytes_of offset))
      (moves_on image inputs world memory regs rd left (bytes_of offset) a writable operands.left_below
      operands.left_address operands.left_is (bytes_below offset)) refl (λ q k. (k.0, (k.1.1.1.0, tt)))

  -- an operator's code computes its word
  pub gives_word : (o : TacOp) → Gives (op_code rd left right o) (op_word o a b)
  gives_word (tacop.Unary o scalar) = gives_unary (is_unsigned scalar) o
  gives_word (tacop.Binary o scalar) = gives_binary (is_unsigned scalar) o
  gives_word tacop.PointerNot = is_zero_code
  gives_word (tacop.PointerMove minus cells index) = gives_move minus cells
  gives_word (tacop.PointerMember offset) = gives_member offset
  gives_word (tacop.PointerDifference cells) = gives_difference cells
  gives_word (tacop.PointerCompare o) = gives_binary true o
