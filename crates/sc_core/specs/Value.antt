-- What operators give on values (C11 6.5), over an arithmetic of words.
use Rattle.sc_core.specs.Common.{BinaryOp, UnaryOp}
use Rattle.sc_word.specs.Prelude.{add_signed, add_word, div_signed, div_unsigned, div_word, divu_word, mul_signed}
use Rattle.sc_word.specs.Prelude.{mul_word, neg_signed, rem_signed, rem_unsigned, rem_word, remu_word, shl_signed}
use Rattle.sc_word.specs.Prelude.{shl_unsigned, shr_signed, shr_unsigned, signed_of, sll_word, sra_word, srl_word}
use Rattle.sc_word.specs.Prelude.{sub_signed, sub_word, word_of}
use Rattle.std.specs.Prelude.{ℕ, ℤ, pos, negsuc, Bool, true, false, not, ◌&&◌, ◌||◌, ◌+ℤ◌, ◌-ℤ◌, ◌*ℤ◌, neg_ℤ, ◌-◌, ◌%◌}
use Rattle.std.specs.Prelude.{◌^◌, if◌then◌else◌, ◌==◌, nat_lt, nat_le, int_lt, int_div, int_rem, length, Result, Ok}
use Rattle.std.specs.Prelude.{Err, bit_and, bit_or, bit_xor}
use Rattle.sc_word.specs.declared.fault.WordFault.{WordFault}
use Rattle.sc_word.specs.declared.fault.WordFault.TheVariants as fault
use Rattle.sc_core.specs.declared.cause.Cause.{Cause}
use Rattle.sc_core.specs.declared.cause.Cause.TheVariants.{Overflow, ZeroDivisor, BadShift, OutOfBounds, NullUse}
use Rattle.sc_core.specs.declared.cause.Cause.TheVariants.{BadType, BadPointer}
use Rattle.sc_base.specs.declared.op.UnaryOp.TheVariants as unary
use Rattle.sc_base.specs.declared.op.BinaryOp.TheVariants as op
use Rattle.sc_core.specs.declared.value.Pointer.{Pointer}
use Rattle.sc_core.specs.declared.value.Value.{Value}
use Rattle.sc_core.specs.declared.value.Value.TheVariants.{Word, Null, Ptr}
use Rattle.sc_core.specs.Memory.{Blocks, bind, cells_at}

-- the operators in which C's arithmetic may be undefined; the `Bool` says whether they are unsigned
pub record Arith : Type 0 where
  pub binary : Bool → BinaryOp → ℕ → ℕ → Result ℕ Cause
  pub negated : Bool → ℕ → Result ℕ Cause

abbrev pub cause_of : WordFault → Cause
cause_of fault.Overflow = Overflow
cause_of fault.ZeroDivisor = ZeroDivisor
cause_of fault.BadShift = BadShift

abbrev pub or_cause : Result ℕ WordFault → Result ℕ Cause
or_cause (Ok w) = Ok w
or_cause (Err f) = Err (cause_of f)

-- `int` 1 or 0
abbrev pub truth : Bool → ℕ
truth b = if b then 1 else 0

-- whether a is less than b, as unsigned or as signed words
abbrev pub is_less : Bool → ℕ → ℕ → Bool
is_less true a b = nat_lt a b
is_less false a b = int_lt (signed_of a) (signed_of b)

-- each operator as one on all words: results are taken modulo 2 ^ 32 and shift counts modulo 32; a quotient by zero is
-- all ones, and its remainder is the dividend
abbrev pub on_all_words : Bool → BinaryOp → ℕ → ℕ → ℕ
on_all_words unsigned op.BitOr a b = bit_or a b
on_all_words unsigned op.BitXor a b = bit_xor a b
on_all_words unsigned op.BitAnd a b = bit_and a b
on_all_words unsigned op.Equal a b = truth (a == b)
on_all_words unsigned op.NotEqual a b = truth (not (a == b))
on_all_words unsigned op.Less a b = truth (is_less unsigned a b)
on_all_words unsigned op.Greater a b = truth (is_less unsigned b a)
on_all_words unsigned op.LessEqual a b = truth (not (is_less unsigned b a))
on_all_words unsigned op.GreaterEqual a b = truth (not (is_less unsigned a b))
on_all_words true op.Add a b = add_word a b
on_all_words false op.Add a b = word_of (signed_of a +ℤ signed_of b)
on_all_words true op.Sub a b = sub_word a b
on_all_words false op.Sub a b = word_of (signed_of a -ℤ signed_of b)
on_all_words true op.Mul a b = mul_word a b
on_all_words false op.Mul a b = word_of (signed_of a *ℤ signed_of b)
on_all_words true op.Div a b = divu_word a b
on_all_words false op.Div a b = div_word a b
on_all_words true op.Rem a b = remu_word a b
on_all_words false op.Rem a b = rem_word a b
on_all_words true op.ShiftLeft a b = sll_word a b
on_all_words false op.ShiftLeft a b = word_of (signed_of a *ℤ pos (2 ^ (b % 32)))
on_all_words true op.ShiftRight a b = srl_word a b
on_all_words false op.ShiftRight a b = sra_word a b
on_all_words unsigned op.OrElse a b = truth (not (a == 0) || not (b == 0))
on_all_words unsigned op.AndAlso a b = truth (not (a == 0) && not (b == 0))

-- C's arithmetic: signed results must fit, divisors are not zero, counts are below 32; all else is as on all words
abbrev pub c_binary : Bool → BinaryOp → ℕ → ℕ → Result ℕ Cause
c_binary false op.Add a b = or_cause (add_signed a b)
c_binary false op.Sub a b = or_cause (sub_signed a b)
c_binary false op.Mul a b = or_cause (mul_signed a b)
c_binary false op.Div a b = or_cause (div_signed a b)
c_binary true op.Div a b = or_cause (div_unsigned a b)
c_binary false op.Rem a b = or_cause (rem_signed a b)
c_binary true op.Rem a b = or_cause (rem_unsigned a b)
c_binary false op.ShiftLeft a b = or_cause (shl_signed a b)
c_binary true op.ShiftLeft a b = or_cause (shl_unsigned a b)
c_binary false op.ShiftRight a b = or_cause (shr_signed a b)
c_binary true op.ShiftRight a b = or_cause (shr_unsigned a b)
c_binary unsigned o a b = Ok (on_all_words unsigned o a b)

-- minus a word, modulo 2 ^ 32
abbrev pub negated_word : Bool → ℕ → ℕ
negated_word true a = sub_word 0 a
negated_word false a = word_of (neg_ℤ (signed_of a))

abbrev pub c_negated : Bool → ℕ → Result ℕ Cause
c_negated true a = Ok (negated_word true a)
c_negated false a = or_cause (neg_signed a)

-- C's arithmetic (C11 6.5), which blames
abbrev pub c_arith : Arith
c_arith = record { binary = c_binary; negated = c_negated }

-- the arithmetic in which every operator gives a word
abbrev pub wrapping : Arith
wrapping =
    record {
      binary = λ unsigned o a b. Ok (on_all_words unsigned o a b);
      negated = λ unsigned a. Ok (negated_word unsigned a);
    }

abbrev pub as_word : Result ℕ Cause → Result Value Cause
as_word r = bind r (λ w. Ok (Word w))

-- whether a condition holds: a word that is not 0, or a pointer that is not null
abbrev pub is_true : Value → Bool
is_true (Word w) = not (w == 0)
is_true Null = false
is_true (Ptr p) = true

abbrev pub of_bool : Bool → Value
of_bool b = Word (truth b)

-- the whole number that an index stands for
abbrev pub number_of : Bool → ℕ → ℤ
number_of true w = pos w
number_of false w = signed_of w

-- the place at this index of a block of `cells` cells, or one past its last (C11 6.5.6p8)
abbrev pub place_at : ℕ → ℤ → ℕ → Result Value Cause
place_at block (negsuc i) cells = Err OutOfBounds
place_at block (pos i) cells = if nat_le i cells then Ok (Ptr (record { block = block; index = i })) else
    Err OutOfBounds

-- the place `by` cells after another
abbrev pub moved : Blocks → ℤ → Value → Result Value Cause
moved blocks by (Word w) = Err BadType
moved blocks by Null = Err NullUse
moved blocks by (Ptr p) = bind (cells_at blocks p.block) (λ cells. place_at p.block (pos p.index +ℤ by) (length cells))

-- the place this number of elements after, or before, another (C11 6.5.2.1, 6.5.6p8); an element has `cells` cells
abbrev pub moved_on : Blocks → ℕ → Bool → Value → Value → Result Value Cause
moved_on blocks cells unsigned q (Word i) = moved blocks (pos cells *ℤ number_of unsigned i) q
moved_on blocks cells unsigned q i = Err BadType

abbrev pub moved_back : Blocks → ℕ → Bool → Value → Value → Result Value Cause
moved_back blocks cells unsigned q (Word i) = moved blocks (neg_ℤ (pos cells *ℤ number_of unsigned i)) q
moved_back blocks cells unsigned q i = Err BadType

-- how far the first of two places lies after the second, in cells: both must be of one block (C11 6.5.6p9, 6.5.8p5)
abbrev pub apart : Value → Value → Result ℤ Cause
apart (Ptr p) (Ptr q) = if p.block == q.block then Ok (pos p.index -ℤ pos q.index) else Err BadPointer
apart v w = Err NullUse

abbrev pub is_zero : ℤ → Bool
is_zero (pos n) = n == 0
is_zero (negsuc n) = false

-- `by` cells as a whole number of elements of `cells` cells
abbrev pub in_elements : ℕ → ℤ → Result Value Cause
in_elements cells by = if is_zero (int_rem by (pos cells)) then Ok (Word (word_of (int_div by (pos cells)))) else
    Err BadPointer

-- the order of two places that are so far apart
abbrev pub ordered : BinaryOp → ℤ → Bool
ordered op.Less by = int_lt by (pos 0)
ordered op.Greater by = int_lt (pos 0) by
ordered op.LessEqual by = not (int_lt (pos 0) by)
ordered o by = not (int_lt by (pos 0))

-- a place strictly inside its block
abbrev pub is_inside : Blocks → Pointer → Result Bool Cause
is_inside blocks p = bind (cells_at blocks p.block) (λ cells. Ok (nat_lt p.index (length cells)))

-- whether two pointers are equal; of two blocks both must be strictly inside (C11 6.5.9p6)
abbrev pub same_place : Blocks → Value → Value → Result Bool Cause
same_place blocks Null Null = Ok true
same_place blocks (Ptr p) (Ptr q) =
    if p.block == q.block then Ok (p.index == q.index) else
    bind (is_inside blocks p) (λ a. bind (is_inside blocks q) (λ b. if a && b then Ok false else Err BadPointer))
same_place blocks v w = Ok false

-- an operator between two pointers to elements of `cells` cells
abbrev pub between : Blocks → BinaryOp → ℕ → Value → Value → Result Value Cause
between blocks op.Sub cells v w = bind (apart v w) (in_elements cells)
between blocks op.Equal cells v w = bind (same_place blocks v w) (λ b. Ok (of_bool b))
between blocks op.NotEqual cells v w = bind (same_place blocks v w) (λ b. Ok (of_bool (not b)))
between blocks o cells v w = bind (apart v w) (λ by. Ok (of_bool (ordered o by)))

-- an operator between two words
abbrev pub on_words : Arith → Bool → BinaryOp → Value → Value → Result Value Cause
on_words arith unsigned o (Word a) (Word b) = as_word (arith.binary unsigned o a b)
on_words arith unsigned o v w = Err BadType

abbrev pub on_word : (ℕ → Result ℕ Cause) → Value → Result Value Cause
on_word f (Word a) = as_word (f a)
on_word f v = Err BadType

-- the word that a value is
abbrev pub count_in : Value → Result ℕ Cause
count_in (Word w) = Ok w
count_in v = Err BadType

-- an operator before a value (C11 6.5.3.3)
abbrev pub applied_one : Arith → Bool → UnaryOp → Value → Result Value Cause
applied_one arith unsigned unary.Minus v = on_word (arith.negated unsigned) v
applied_one arith unsigned unary.Plus v = Ok v
applied_one arith unsigned unary.Not v = Ok (of_bool (not (is_true v)))
applied_one arith unsigned unary.BitNot v = on_word (λ a. Ok (2 ^ 32 - 1 - a)) v
