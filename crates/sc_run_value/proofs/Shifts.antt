-- Places that move.
use Rattle.sc_run_value.proofs.Common.{Blocks, Bool, Cause, Result, Value, Word, ap, arith, moved, moved_back, mul-one}
use Rattle.sc_run_value.proofs.Common.{neg_ℤ, negsuc, number_of, pos, refl, suc, sym, zero, ℕ, ℤ, ◌*ℤ◌, ◌*◌, ◌∙◌, ◌≡◌}
use Rattle.std.proofs.Math.IntN.{*ℤ-negsuc, neg_ℤ-neg_ℤ}

pub by_one : (blocks : Blocks) (offset : ℕ) (q : Value) →
    moved blocks (pos offset *ℤ pos 1) q ≡ moved blocks (pos offset) q
by_one blocks offset q = ap (λ n. moved blocks (pos n) q) (mul-one offset)

times_zero : (m : ℕ) → m * 0 ≡ 0
times_zero m = omega arith

-- `m` cells, times a number that is negated
back : (m : ℕ) (z : ℤ) → pos m *ℤ neg_ℤ z ≡ neg_ℤ (pos m *ℤ z)
back m (pos zero) = rw (times_zero m) refl
back m (pos (suc k)) = *ℤ-negsuc (pos m) k
back m (negsuc k) = sym (neg_ℤ-neg_ℤ (pos m *ℤ pos (suc k))) ∙ ap neg_ℤ (sym (*ℤ-negsuc (pos m) k))

pub back_is : (blocks : Blocks) (cells : ℕ) (unsigned : Bool) (q index : Value) (word : ℕ) (times : ℤ)
    (r : Result Value Cause) → index ≡ Word word → times ≡ neg_ℤ (number_of unsigned word) →
    r ≡ moved blocks (pos cells *ℤ times) q → r ≡ moved_back blocks cells unsigned q index
back_is blocks cells unsigned q index word times r is number gives = gives ∙ ap (λ z. moved blocks (pos cells *ℤ z) q)
    number ∙ ap (λ z. moved blocks z q) (back cells (number_of unsigned word)) ∙ ap (moved_back blocks cells unsigned q)
    (sym is)
