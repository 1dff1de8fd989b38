-- A worker has few functions: those of each 31st number.
use Rattle.sc_report_made.proofs.Common.{Bool, List, [], all_functions, ap, arith, cases_lt, cond, eqb-true, false}
use Rattle.sc_report_made.proofs.Common.{filter, worker_functions, inl, inr, length, nat_eq, numbers_from, refl, suc}
use Rattle.sc_report_made.proofs.Common.{true}
use Rattle.sc_report_made.proofs.Common.{workers, zero, ℕ, ◌%◌, ◌*◌, ◌+◌, ◌<◌, ◌∙◌, ◌∷◌, ◌≡◌, ◌≤◌, ◌⊎◌}

-- how many numbers of a list pass a test

pub numbers_length : (first count : ℕ) → length (numbers_from first count) ≡ count
numbers_length first zero = refl
numbers_length first (suc count) = ap suc (numbers_length (suc first) count)

filtered_length : (test : ℕ → Bool) (xs : List ℕ) → length (filter test xs) ≤ length xs
filtered_length test [] = omega arith
filtered_length test (x ∷ xs) = by (test x) (filtered_length test xs) where
  by : (b : Bool) → length (filter test xs) ≤ length xs →
      length (cond b (x ∷ filter test xs) (filter test xs)) ≤ suc (length xs)
  by true rest = omega (arith, rest)
  by false rest = omega (arith, rest)

-- Of numbers in a row, those that leave one remainder.

abbrev leaves : (i j : ℕ) → Bool
leaves i j = nat_eq (j % 31) i

abbrev hits : (i first count : ℕ) → ℕ
hits i first count = length (filter (leaves i) (numbers_from first count))

hit_next : (i first count : ℕ) (b : Bool) → leaves i first ≡ b →
    hits i first (suc count) ≡ cond b (suc (hits i (suc first) count)) (hits i (suc first) count)
hit_next i first count true is =
    ap (λ b. length (cond b (first ∷ filter (leaves i) (numbers_from (suc first) count))
    (filter (leaves i) (numbers_from (suc first) count)))) is
hit_next i first count false is =
    ap (λ b. length (cond b (first ∷ filter (leaves i) (numbers_from (suc first) count))
    (filter (leaves i) (numbers_from (suc first) count)))) is

-- where the next one stands after a gap
few_from : (i first count gap : ℕ) → gap ≤ 30 → (first + gap) % 31 ≡ i → 31 * hits i first count + gap ≤ count + 30
few_from i first zero gap small at = omega (arith, small)
few_from i first (suc count) zero small at =
    by (leaves i first) refl (few_from i (suc first) count 30 (omega arith) (omega (arith, at))) where
      by : (b : Bool) → leaves i first ≡ b → 31 * hits i (suc first) count + 30 ≤ count + 30 →
          31 * hits i first (suc count) + 0 ≤ suc count + 30
      by true is rest = omega (arith, hit_next i first count true is, rest)
      by false is rest = omega (arith, hit_next i first count false is, rest)
few_from i first (suc count) (suc gap) small at =
    by (leaves i first) refl (few_from i (suc first) count gap (omega (arith, small)) (omega (arith, at))) where
      by : (b : Bool) → leaves i first ≡ b → 31 * hits i (suc first) count + gap ≤ count + 30 →
          31 * hits i first (suc count) + suc gap ≤ suc count + 30
      by true is rest = absurd (let e = eqb-true (first % 31) i is in omega (arith, e, at, small))
      by false is rest = omega (arith, hit_next i first count false is, rest)

-- no number leaves 31 or more
none_from : (i first count : ℕ) → 31 ≤ i → hits i first count ≡ 0
none_from i first zero large = refl
none_from i first (suc count) large = by (leaves i first) refl (none_from i (suc first) count large) where
  by : (b : Bool) → leaves i first ≡ b → hits i (suc first) count ≡ 0 → hits i first (suc count) ≡ 0
  by true is rest = absurd (let e = eqb-true (first % 31) i is in omega (arith, e, large))
  by false is rest = hit_next i first count false is ∙ rest

few_hits : (i count : ℕ) → count ≤ 1000 → hits i 0 count ≤ 33
few_hits i count few = by (cases_lt i 31) where
  by : (i < 31) ⊎ (31 ≤ i) → hits i 0 count ≤ 33
  by (inl small) = omega (arith, few, few_from i 0 count i (omega (arith, small)) (omega (arith, small)))
  by (inr large) = omega (arith, none_from i 0 count large)

-- a worker has at most 33 functions
pub few_functions : (size i : ℕ) → size ≤ 1000 → length (worker_functions size i) ≤ 33
few_functions size i few = by (cases_lt size 31) where
  by : (size < 31) ⊎ (31 ≤ size) → length (worker_functions size i) ≤ 33
  by (inl small) =
      let kept = filtered_length (λ j. nat_eq (j % workers size) i) (all_functions size) in
      omega (arith, small, numbers_length 0 size, kept)
  by (inr large) =
      let all : workers size ≡ 31 = omega (arith, large) in
      let same = ap (λ w. length (filter (λ j. nat_eq (j % w) i) (all_functions size))) all in
      omega (arith, same, few_hits i size few)
