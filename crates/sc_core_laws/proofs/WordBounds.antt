-- What arithmetic computes of words is a word.
use Rattle.std.proofs.Common.{Bool, arith, bit_and, false, true, ℕ, ◌<◌, ◌^◌, ◌≤◌}
use Rattle.std.proofs.lemmas.Nat.{and_le_l, or_of_32, xor_of_32}
use Rattle.sc_base.specs.declared.op.BinaryOp.{BinaryOp}
use Rattle.sc_base.specs.declared.op.BinaryOp.TheVariants as op
use Rattle.sc_core.specs.Prelude.{negated_word, on_all_words, truth}
use Rattle.sc_word.proofs.Below.{add_word-lt, sub_word-lt, mul_word-lt, div_word-lt, divu_word-lt, rem_word-lt}
use Rattle.sc_word.proofs.Below.{remu_word-lt, sll_word-lt, srl_word-lt, sra_word-lt}
use Rattle.sc_word.proofs.Words.{word_of-lt}

pub truth_below : (t : Bool) → truth t < 2 ^ 32
truth_below true = omega arith
truth_below false = omega arith

pub binary_below : (unsigned : Bool) (o : BinaryOp) (a b : ℕ) → a < 2 ^ 32 → b < 2 ^ 32 →
    on_all_words unsigned o a b < 2 ^ 32
binary_below unsigned op.BitOr a b h k = or_of_32 a b h k
binary_below unsigned op.BitXor a b h k = xor_of_32 a b h k
binary_below unsigned op.BitAnd a b h k = let low : bit_and a b ≤ a = and_le_l a b in omega arith
binary_below unsigned op.Equal a b h k = truth_below _
binary_below unsigned op.NotEqual a b h k = truth_below _
binary_below unsigned op.Less a b h k = truth_below _
binary_below unsigned op.Greater a b h k = truth_below _
binary_below unsigned op.LessEqual a b h k = truth_below _
binary_below unsigned op.GreaterEqual a b h k = truth_below _
binary_below true op.Add a b h k = add_word-lt a b
binary_below false op.Add a b h k = word_of-lt _
binary_below true op.Sub a b h k = sub_word-lt a b
binary_below false op.Sub a b h k = word_of-lt _
binary_below true op.Mul a b h k = mul_word-lt a b
binary_below false op.Mul a b h k = word_of-lt _
binary_below true op.Div a b h k = divu_word-lt a b h
binary_below false op.Div a b h k = div_word-lt a b
binary_below true op.Rem a b h k = remu_word-lt a b h
binary_below false op.Rem a b h k = rem_word-lt a b h
binary_below true op.ShiftLeft a b h k = sll_word-lt a b
binary_below false op.ShiftLeft a b h k = word_of-lt _
binary_below true op.ShiftRight a b h k = srl_word-lt a b h
binary_below false op.ShiftRight a b h k = sra_word-lt a b
binary_below unsigned op.OrElse a b h k = truth_below _
binary_below unsigned op.AndAlso a b h k = truth_below _

pub negated_below : (unsigned : Bool) (a : ℕ) → negated_word unsigned a < 2 ^ 32
negated_below true a = sub_word-lt 0 a
negated_below false a = word_of-lt _
