-- The arithmetic that blames and the one that wraps give the same, or the first blames.
use Rattle.sc_core_laws.proofs.Common.{BinaryOp, Bool, Err, IsArithmetic, Ok, Result, arith, c_binary, c_negated}
use Rattle.sc_core_laws.proofs.Common.{cause_of, false, if◌then◌else◌, int_lt, leb-false, nat_le, negated_word}
use Rattle.sc_core_laws.proofs.Common.{on_all_words, or_cause, pos, refl, subst, true, ℕ, ℤ, ◌%◌, ◌*ℤ◌, ◌*◌, ◌/◌, ◌<◌}
use Rattle.sc_core_laws.proofs.Common.{◌==◌, ◌^◌, ◌≡◌}
use Rattle.sc_word.specs.Prelude.{checked, signed_of, word_of}
use Rattle.std.specs.Int.{int_shr}
use Rattle.sc_word.specs.declared.fault.WordFault.{WordFault}
use Rattle.sc_word.specs.declared.fault.WordFault.TheVariants as fault
use Rattle.sc_base.specs.declared.op.BinaryOp.TheVariants as op
use Rattle.sc_core_laws.proofs.Expressions.{Keeps, alike, blamed}

fault_passes : (f : WordFault) → IsArithmetic (cause_of f)
fault_passes f = grind arith

fault_fits : (f : WordFault) (w : ℕ) → Keeps IsArithmetic ℕ (or_cause (Err f)) (Ok w)
fault_fits f w = blamed _ (fault_passes f) refl

checked_fits : (z : ℤ) → Keeps IsArithmetic ℕ (or_cause (checked z)) (Ok (word_of z))
checked_fits z = by_fit _ where
  by_fit : (b : Bool) → Keeps IsArithmetic ℕ (or_cause (if b then Ok (word_of z) else Err fault.Overflow))
      (Ok (word_of z))
  by_fit true = alike refl
  by_fit false = fault_fits fault.Overflow _

-- where a test fails there is a fault, else what is computed fits
guard_fits : (b : Bool) (f : WordFault) (r : Result ℕ WordFault) (w v : ℕ) → Keeps IsArithmetic ℕ (or_cause r) (Ok v) →
    Keeps IsArithmetic ℕ (or_cause (if b then Err f else r)) (Ok (if b then w else v))
guard_fits true f r w v h = fault_fits f w
guard_fits false f r w v h = h

rem_fits : (b : Bool) (w : ℕ) → Keeps IsArithmetic ℕ (or_cause (if b then Ok w else Err fault.Overflow)) (Ok w)
rem_fits true w = alike refl
rem_fits false w = fault_fits fault.Overflow w

-- a shift whose count is below 32 is by that count
shift_fits : (b : ℕ) (test : Bool) → nat_le 32 b ≡ test → (r : ℕ → Result ℕ WordFault) (w : ℕ → ℕ) →
    ((n : ℕ) → Keeps IsArithmetic ℕ (or_cause (r n)) (Ok (w n))) →
    Keeps IsArithmetic ℕ (or_cause (if test then Err fault.BadShift else r b)) (Ok (w (b % 32)))
shift_fits b true is r w h = fault_fits fault.BadShift _
shift_fits b false is r w h =
    subst (λ n. Keeps IsArithmetic ℕ (or_cause (r b)) (Ok (w n))) (small b (leb-false 32 b is)) (h b) where
      small : (b : ℕ) → b < 32 → b ≡ b % 32
      small b h = omega (arith, h)

negative_fits : (b : Bool) (z : ℤ) → Keeps IsArithmetic ℕ (or_cause (if b then Err fault.Overflow else checked z))
    (Ok (word_of z))
negative_fits true z = fault_fits fault.Overflow _
negative_fits false z = checked_fits z

pub binary_fits : (unsigned : Bool) (o : BinaryOp) (a b : ℕ) →
    Keeps IsArithmetic ℕ (c_binary unsigned o a b) (Ok (on_all_words unsigned o a b))
binary_fits false op.Add a b = checked_fits _
binary_fits false op.Sub a b = checked_fits _
binary_fits false op.Mul a b = checked_fits _
binary_fits false op.Div a b = guard_fits (b == 0) fault.ZeroDivisor _ _ _ (checked_fits _)
binary_fits true op.Div a b = guard_fits _ _ (Ok _) _ _ (alike refl)
binary_fits false op.Rem a b = guard_fits (b == 0) fault.ZeroDivisor _ a _ (rem_fits _ _)
binary_fits true op.Rem a b = guard_fits _ _ (Ok _) a _ (alike refl)
binary_fits false op.ShiftLeft a b =
    shift_fits b _ refl (λ n. if int_lt (signed_of a) (pos 0) then Err fault.Overflow else checked
    (signed_of a *ℤ pos (2 ^ n))) (λ n. word_of (signed_of a *ℤ pos (2 ^ n)))
    (λ n. negative_fits (int_lt (signed_of a) (pos 0)) (signed_of a *ℤ pos _))
binary_fits true op.ShiftLeft a b = shift_fits b _ refl (λ n. Ok _) (λ n. (a * 2 ^ n) % 2 ^ 32) (λ n. alike refl)
binary_fits false op.ShiftRight a b = shift_fits b _ refl (λ n. Ok _) (λ n. word_of (int_shr _ n)) (λ n. alike refl)
binary_fits true op.ShiftRight a b = shift_fits b _ refl (λ n. Ok _) (λ n. a / 2 ^ n) (λ n. alike refl)
binary_fits _ _ a b = alike refl

pub negated_fits : (unsigned : Bool) (a : ℕ) →
    Keeps IsArithmetic ℕ (c_negated unsigned a) (Ok (negated_word unsigned a))
negated_fits true a = alike refl
negated_fits false a = checked_fits _
