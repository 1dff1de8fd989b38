-- The numbers of functions and workers: which are in a list, and that they rise.
use Rattle.sc_report_made.proofs.Common.{AllByRecursion, Bool, IsAmong, List, [], all_functions, arith, cond, eq-eqb}
use Rattle.sc_report_made.proofs.Common.{false, false≢true, filter, first, worker_functions, inl, inr}
use Rattle.sc_report_made.proofs.Common.{is_first_or_later}
use Rattle.sc_report_made.proofs.Common.{later, nat_eq, none_among, numbers_from, refl, subst, suc, true, workers, zero}
use Rattle.sc_report_made.proofs.Common.{ℕ, ◌%◌, ◌+◌, ◌<◌, ◌∷◌, ◌≡◌, ◌≤◌}
use Rattle.std.proofs.lemmas.Nat.{mod_below}

-- the numbers rise, from `low` on, and stay below `high`
abbrev pub Rise : (low high : ℕ) → List ℕ → Type 0
Rise low high [] = Unit {0}
Rise low high (j ∷ js) = (low ≤ j) × (j < high) × Rise (suc j) high js

rise_lower : (low lower high : ℕ) (js : List ℕ) → lower ≤ low → Rise low high js → Rise lower high js
rise_lower low lower high [] le h = tt
rise_lower low lower high (j ∷ js) le h = let at_least = h.0 in (omega (arith, at_least, le), h.1, h.2)

numbers_rise : (from count high : ℕ) → from + count ≤ high → Rise from high (numbers_from from count)
numbers_rise from zero high le = tt
numbers_rise from (suc count) high le =
    (omega arith, omega (arith, le), numbers_rise (suc from) count high (omega (arith, le)))

filter_one : (p : ℕ → Bool) (low high j : ℕ) (js : List ℕ) (b : Bool) → low ≤ j → j < high →
    Rise (suc j) high (filter p js) → Rise low high (cond b (j ∷ filter p js) (filter p js))
filter_one p low high j js true at_least below h = (at_least, below, h)
filter_one p low high j js false at_least below h =
    rise_lower (suc j) low high (filter p js) (omega (arith, at_least)) h

filter_rise : (p : ℕ → Bool) (low high : ℕ) (js : List ℕ) → Rise low high js → Rise low high (filter p js)
filter_rise p low high [] h = tt
filter_rise p low high (j ∷ js) h =
    filter_one p low high j js (p j) h.0 h.1 (filter_rise p (suc j) high js h.2)

pub all_rise : (size : ℕ) → size ≤ 1000 → Rise 0 1000 (all_functions size)
all_rise size few = numbers_rise 0 size 1000 (omega (arith, few))

pub functions_rise : (size i : ℕ) → size ≤ 1000 → Rise 0 1000 (worker_functions size i)
functions_rise size i few =
    filter_rise (λ j. nat_eq (j % workers size) i) 0 1000 (all_functions size) (all_rise size few)

pub workers_rise : (size : ℕ) → Rise 0 31 (numbers_from 0 (workers size))
workers_rise size = numbers_rise 0 (workers size) 31 (omega arith)

-- those that rise are below the bound
pub all_below : (low high : ℕ) (js : List ℕ) → Rise low high js → AllByRecursion (λ j. j < high) js
all_below low high [] h = tt
all_below low high (j ∷ js) h = (h.1, all_below (suc j) high js h.2)

-- Numbers in lists.

number_at : (from count k : ℕ) → k < count → IsAmong (from + k) (numbers_from from count)
number_at from zero k lt = absurd (omega (arith, lt))
number_at from (suc count) zero lt =
    let same : from ≡ from + 0 = omega arith in
    subst (λ n. IsAmong n (from ∷ numbers_from (suc from) count)) same (first (numbers_from (suc from) count))
number_at from (suc count) (suc k) lt =
    let same : suc from + k ≡ from + suc k = omega arith in
    subst (λ n. IsAmong n (from ∷ numbers_from (suc from) count)) same
    (later from (numbers_from (suc from) count) (number_at (suc from) count k (omega (arith, lt))))

pub number_there : (count k : ℕ) → k < count → IsAmong k (numbers_from 0 count)
number_there count k lt =
    let same : 0 + k ≡ k = omega arith in
    subst (λ n. IsAmong n (numbers_from 0 count)) same (number_at 0 count k lt)

kept_one : (p : ℕ → Bool) (j : ℕ) (js : List ℕ) (b : Bool) → b ≡ true →
    IsAmong j (cond b (j ∷ filter p js) (filter p js))
kept_one p j js true e = first (filter p js)
kept_one p j js false e = absurd (false≢true e)

later_one : (p : ℕ → Bool) (i j : ℕ) (js : List ℕ) (b : Bool) → IsAmong j (filter p js) →
    IsAmong j (cond b (i ∷ filter p js) (filter p js))
later_one p i j js true h = later i (filter p js) h
later_one p i j js false h = h

filter_keeps : (p : ℕ → Bool) (j : ℕ) (js : List ℕ) → p j ≡ true → IsAmong j js → IsAmong j (filter p js)
filter_keeps p j [] e h = none_among j h
filter_keeps p j (i ∷ js) e h = elim (is_first_or_later j i js h) [
  | inl same ↦ subst (λ n. IsAmong j (filter p (n ∷ js))) same (kept_one p j js (p j) e)
  | inr rest ↦ later_one p i j js (p i) (filter_keeps p j js e rest)
]

-- each function stands in its worker
pub function_there : (size j : ℕ) → IsAmong j (all_functions size) → IsAmong j (worker_functions size (j % workers
    size))
function_there size j h =
    filter_keeps (λ k. nat_eq (k % workers size) (j % workers size)) j (all_functions size)
    (eq-eqb (j % workers size) (j % workers size) refl) h

-- a function's worker is one of the workers
pub worker_low : (size j : ℕ) → 1 ≤ size → j % workers size < workers size
worker_low size j some = mod_below j (workers size) (omega (arith, some))
