-- Helping: what the code of an operator computes of two words.
use Rattle.sc_emit_hart.specs.Common.{address_scratch, bytes_of, first_scratch, second_scratch}
use Rattle.sc_word.specs.Prelude.{add_word, div_word, mul_word, sub_word}
use Rattle.sc_core.specs.Prelude.{negated_word, on_all_words, truth}
use Rattle.sc_tac.specs.Prelude.{is_unsigned}
use Rattle.sc_emit_hart.specs.Hart.{Registers, look}
use Rattle.std.specs.Prelude.{◌≡◌, ◌≢◌, ℕ, ◌-◌, ◌^◌, ◌<◌, Bool, true, false, ◌==◌}
use Rattle.sc_base.specs.declared.op.UnaryOp.{UnaryOp}
use Rattle.sc_base.specs.declared.op.UnaryOp.TheVariants as unary
use Rattle.sc_tac.specs.declared.stmt.TacOp.{TacOp}
use Rattle.sc_tac.specs.declared.stmt.TacOp.TheVariants as tacop

abbrev pub unary_word : (unsigned : Bool) → UnaryOp → ℕ → ℕ
unary_word unsigned unary.Minus a = negated_word unsigned a
unary_word unsigned unary.Plus a = a
unary_word unsigned unary.Not a = truth (a == 0)
unary_word unsigned unary.BitNot a = 2 ^ 32 - 1 - a

-- an address `b` elements further, or back
abbrev pub stepped_word : (minus : Bool) → (cells a b : ℕ) → ℕ
stepped_word true cells a b = sub_word a (mul_word b (bytes_of cells))
stepped_word false cells a b = add_word a (mul_word b (bytes_of cells))

abbrev pub op_word : TacOp → (a b : ℕ) → ℕ
op_word (tacop.Unary o scalar) a b = unary_word (is_unsigned scalar) o a
op_word (tacop.Binary o scalar) a b = on_all_words (is_unsigned scalar) o a b
op_word tacop.PointerNot a b = truth (a == 0)
op_word (tacop.PointerMove minus cells index) a b = stepped_word minus cells a b
op_word (tacop.PointerMember offset) a b = add_word a (bytes_of offset)
op_word (tacop.PointerDifference cells) a b = div_word (sub_word a b) (bytes_of cells)
op_word (tacop.PointerCompare o) a b = on_all_words true o a b

-- two registers hold words; none is one in which code computes before it reads that register
pub record AreOperands (regs : Registers) (left right a b : ℕ) : Type 0 where
  pub left_below : left < 32
  pub left_second : left ≢ second_scratch
  pub left_address : left ≢ address_scratch
  pub right_below : right < 32
  pub right_first : right ≢ first_scratch
  pub right_address : right ≢ address_scratch
  pub left_is : look regs left ≡ a
  pub right_is : look regs right ≡ b
  pub left_word : a < 2 ^ 32
  pub right_word : b < 2 ^ 32
