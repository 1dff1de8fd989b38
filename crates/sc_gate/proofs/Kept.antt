-- Registers that are cleared one after the other.
use Rattle.sc_gate.specs.Clearing.{KeepsNone, cleared_first}
use Rattle.sc_image.specs.Prelude.{is_argument, kept, kept_from}
use Rattle.std.proofs.Common.{◌≡◌, ℕ, zero, suc, ◌+◌, ◌<◌, ◌≤◌, Bool, true, false, List, [], ◌∷◌, ◌++◌, length, take}
use Rattle.std.proofs.Common.{drop, set, refl, sym, ◌∙◌, ap, arith}
use Rattle.std.specs.Prelude.{if◌then◌else◌}
use Rattle.std.proofs.lemmas.Bool.Decides.{nat_tests}

clears_from : (keeps : ℕ → Bool) (r : ℕ) (regs : List ℕ) (n k : ℕ) → k ≡ r + n → n < length regs → keeps k ≡ false →
    kept_from keeps r (take (suc n) regs) ++ drop (suc n) regs ≡
    set (kept_from keeps r (take n regs) ++ drop n regs) n 0
clears_from keeps r [] n k is h out = absurd (omega arith)
clears_from keeps r (x ∷ xs) zero k is h out =
    let same : r ≡ k = omega arith in
    rw (same, out) refl
clears_from keeps r (x ∷ xs) (suc n) k is h out = ap (λ rest. (if keeps r then x else 0) ∷ rest)
    (clears_from keeps (suc r) xs n k (omega arith) (omega arith) out)

keeps_from : (keeps : ℕ → Bool) (r : ℕ) (regs : List ℕ) (n k : ℕ) → k ≡ r + n → n < length regs → keeps k ≡ true →
    kept_from keeps r (take (suc n) regs) ++ drop (suc n) regs ≡ kept_from keeps r (take n regs) ++ drop n regs
keeps_from keeps r [] n k is h stays = absurd (omega arith)
keeps_from keeps r (x ∷ xs) zero k is h stays =
    let same : r ≡ k = omega arith in
    rw (same, stays) refl
keeps_from keeps r (x ∷ xs) (suc n) k is h stays = ap (λ rest. (if keeps r then x else 0) ∷ rest)
    (keeps_from keeps (suc r) xs n k (omega arith) (omega arith) stays)

-- the next register, by whether it is kept
pub next_cleared : (keeps : ℕ → Bool) (n : ℕ) (regs now : List ℕ) → n < length regs → keeps n ≡ false →
    now ≡ cleared_first keeps n regs → set now n 0 ≡ cleared_first keeps (n + 1) regs
next_cleared keeps n regs now h out is =
    let more : n + 1 ≡ suc n = omega arith in
    rw (is, more) (sym (clears_from keeps 0 regs n n (omega arith) h out))

pub next_kept : (keeps : ℕ → Bool) (n : ℕ) (regs now : List ℕ) → n < length regs → keeps n ≡ true →
    now ≡ cleared_first keeps n regs → now ≡ cleared_first keeps (n + 1) regs
next_kept keeps n regs now h stays is =
    let more : n + 1 ≡ suc n = omega arith in
    rw more (is ∙ sym (keeps_from keeps 0 regs n n (omega arith) h stays))

-- all are cleared that aren't kept
whole_from : (keeps : ℕ → Bool) (r : ℕ) (regs : List ℕ) →
    kept_from keeps r (take (length regs) regs) ++ drop (length regs) regs ≡ kept_from keeps r regs
whole_from keeps r [] = refl
whole_from keeps r (x ∷ xs) = ap (λ rest. (if keeps r then x else 0) ∷ rest) (whole_from keeps (suc r) xs)

pub all_cleared : (keeps : ℕ → Bool) (n : ℕ) (regs : List ℕ) → length regs ≡ n →
    cleared_first keeps n regs ≡ kept keeps regs
all_cleared keeps n regs is = rw (← is) (whole_from keeps 0 regs)

-- the next k registers, which are all kept
pub next_all_kept : (keeps : ℕ → Bool) (n k : ℕ) (regs now : List ℕ) → n + k ≤ length regs →
    ((m : ℕ) → n ≤ m → m < n + k → keeps m ≡ true) → now ≡ cleared_first keeps n regs →
    now ≡ cleared_first keeps (n + k) regs
next_all_kept keeps n zero regs now h stays is =
    let none : n + zero ≡ n = omega arith in
    rw none is
next_all_kept keeps n (suc k) regs now h stays is =
    let more : n + suc k ≡ n + k + 1 = omega arith in
    rw more (next_kept keeps (n + k) regs now (omega arith) (stays (n + k) (omega arith) (omega arith))
    (next_all_kept keeps n k regs now (omega arith) (λ m low high. stays m low (omega arith)) is))

-- which registers are kept
pub below_arguments : (count : ℕ) → KeepsNone (is_argument count) 0 10
below_arguments count n low h = grind (arith, nat_tests)

pub past_arguments : (count : ℕ) → KeepsNone (is_argument count) (10 + count) 32
past_arguments count n h high = grind (arith, nat_tests)

pub at_argument : (count n : ℕ) → 10 ≤ n → n < 10 + count → is_argument count n ≡ true
at_argument count n h k = grind (arith, nat_tests)
