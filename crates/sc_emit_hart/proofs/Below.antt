-- What an operator's code computes is a word.
use Rattle.sc_emit_hart.proofs.Common.{BinaryOp, Bool, TacOp, UnaryOp, and_le_l, arith, bit_and, bytes_of, false}
use Rattle.sc_emit_hart.proofs.Common.{is_unsigned, negated_word, on_all_words, op_word, or_of_32, stepped_word}
use Rattle.sc_emit_hart.proofs.Common.{sub_word, true, truth, unary_word, word_of-lt, xor_of_32, ℕ, ◌<◌, ◌^◌, ◌≤◌}
use Rattle.sc_base.specs.declared.op.UnaryOp.TheVariants as unary
use Rattle.sc_word.proofs.Below.{add_word-lt, sub_word-lt, mul_word-lt, div_word-lt, divu_word-lt, rem_word-lt}
use Rattle.sc_word.proofs.Below.{remu_word-lt, sll_word-lt, srl_word-lt, sra_word-lt}
use Rattle.sc_core_laws.proofs.WordBounds.{binary_below, negated_below, truth_below}
use Rattle.sc_tac.specs.declared.stmt.TacOp.TheVariants as tacop

unary_below : (unsigned : Bool) (o : UnaryOp) (a : ℕ) → a < 2 ^ 32 → unary_word unsigned o a < 2 ^ 32
unary_below unsigned unary.Minus a h = negated_below unsigned a
unary_below unsigned unary.Plus a h = h
unary_below unsigned unary.Not a h = truth_below _
unary_below unsigned unary.BitNot a h = omega arith

stepped_below : (minus : Bool) (cells a b : ℕ) → stepped_word minus cells a b < 2 ^ 32
stepped_below true cells a b = sub_word-lt a _
stepped_below false cells a b = add_word-lt a _

pub op_below : (o : TacOp) (a b : ℕ) → a < 2 ^ 32 → b < 2 ^ 32 → op_word o a b < 2 ^ 32
op_below (tacop.Unary o scalar) a b h k = unary_below (is_unsigned scalar) o a h
op_below (tacop.Binary o scalar) a b h k = binary_below (is_unsigned scalar) o a b h k
op_below tacop.PointerNot a b h k = truth_below _
op_below (tacop.PointerMove minus cells index) a b h k = stepped_below minus cells a b
op_below (tacop.PointerMember offset) a b h k = add_word-lt a _
op_below (tacop.PointerDifference cells) a b h k = div_word-lt (sub_word a b) (bytes_of cells)
op_below (tacop.PointerCompare o) a b h k = binary_below true o a b h k
