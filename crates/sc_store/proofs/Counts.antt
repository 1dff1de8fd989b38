-- How many pages regions have that are apart from one another: no more than there are addresses.
use Rattle.sc_store.proofs.Common.{AreApart, AreBelow, IsIn, List, Region, [], ap, arith, cases_lt, cond, get_or, is_in}
use Rattle.sc_store.proofs.Common.{length, pages_of, refl, suc, sum_by, take, zero, ℕ, ⊎_elim, ◌+◌, ◌-◌, ◌<◌, ◌^◌}
use Rattle.sc_store.proofs.Common.{◌∷◌, ◌≡◌, ◌≤◌}
use Rattle.sc_store.proofs.Words.{in_cases, in_false, in_true, tail_apart}
use Rattle.std.proofs.lemmas.List.Sums.{sum_by-cons, sum_by-take-le, sum_by_more, sum_by_more_le}

-- 1 where the region has the address
abbrev one_at : ℕ → Region → ℕ
one_at a r = cond (is_in r a) 1 0

-- how many of the addresses below `n` a region has, and how many all have
own : Region → ℕ → ℕ
own r zero = 0
own r (suc n) = own r n + one_at n r

owned : List Region → ℕ → ℕ
owned rs zero = 0
owned rs (suc n) = owned rs n + sum_by (one_at n) rs

own_more : (r : Region) (n : ℕ) → own r (suc n) ≡ own r n + one_at n r
unfolding own
own_more r n = refl

owned_next : (rs : List Region) (n : ℕ) → owned rs (suc n) ≡ owned rs n + sum_by (one_at n) rs
unfolding owned
owned_next rs n = refl

own_none : (r : Region) → own r 0 ≡ 0
unfolding own
own_none r = refl

owned_none : (rs : List Region) → owned rs 0 ≡ 0
unfolding owned
owned_none rs = refl

one_inside : (r : Region) (a : ℕ) → IsIn r a → one_at a r ≡ 1
one_inside r a h = ap (λ t. cond {A = ℕ} t 1 0) (in_true r a h)

one_outside : (r : Region) (a : ℕ) → (IsIn r a → ⊥) → one_at a r ≡ 0
one_outside r a h = ap (λ t. cond {A = ℕ} t 1 0) (in_false r a h)

-- ---- an address is in one region at most
in_none : (rs : List Region) (a : ℕ) → ((i : ℕ) (d : Region) → i < length rs → IsIn (get_or rs i d) a → ⊥) →
    sum_by (one_at a) rs ≡ 0
in_none [] a none = refl
in_none (r ∷ rs) a none = omega (
  arith,
  sum_by-cons (one_at a) r rs,
  one_outside r a (λ h. none 0 r (omega arith) h),
  in_none rs a (λ i d l h. none (suc i) d (omega arith) h),
)

in_one : (rs : List Region) (a : ℕ) → AreApart rs → sum_by (one_at a) rs ≤ 1
in_one [] a apart = omega arith
in_one (r ∷ rs) a apart = ⊎_elim (λ inside. omega (
  arith,
  sum_by-cons (one_at a) r rs,
  one_inside r a inside,
  in_none rs a (λ i d l h. apart 0 (suc i) d (omega arith) (omega arith) a inside h),
)) (λ out. omega (arith, sum_by-cons (one_at a) r rs, one_outside r a out, in_one rs a (tail_apart r rs apart)))
    (in_cases r a)

owned_most : (rs : List Region) (n : ℕ) → AreApart rs → owned rs n ≤ n
owned_most rs zero apart = omega (arith, owned_none rs)
owned_most rs (suc n) apart = omega (arith, owned_next rs n, owned_most rs n apart, in_one rs n apart)

-- ---- all addresses of a region are counted
own_is : (r : Region) (n : ℕ) → own r n + (n - (r.start + r.bytes)) ≡ n - r.start
own_is r zero = omega (arith, own_none r)
own_is r (suc n) = ⊎_elim (λ inside. omega (
  arith,
  own_more r n,
  own_is r n,
  one_inside r n inside,
  inside.0,
  inside.1,
)) (λ out. ⊎_elim (λ low. omega (arith, own_more r n, own_is r n, one_outside r n out, low)) (λ from. ⊎_elim
    (λ below. absurd (out (from, below)))
    (λ above. omega (arith, own_more r n, own_is r n, one_outside r n out, from, above))
    (cases_lt n (r.start + r.bytes))) (cases_lt n r.start)) (in_cases r n)

owned_more : (r : Region) (rs : List Region) (n : ℕ) → owned (r ∷ rs) n ≡ own r n + owned rs n
owned_more r rs zero = omega (arith, owned_none (r ∷ rs), own_none r, owned_none rs)
owned_more r rs (suc n) = omega (
  arith,
  owned_more r rs n,
  owned_next (r ∷ rs) n,
  own_more r n,
  owned_next rs n,
  sum_by-cons (one_at n) r rs,
)

bytes_owned : (rs : List Region) (n : ℕ) → ((i : ℕ) (d : Region) → i < length rs →
    (get_or rs i d).start + (get_or rs i d).bytes ≤ n) → sum_by pages_of rs ≤ owned rs n
bytes_owned [] n below = omega arith
bytes_owned (r ∷ rs) n below = omega (
  arith,
  sum_by-cons pages_of r rs,
  owned_more r rs n,
  own_is r n,
  below 0 r (omega arith),
  bytes_owned rs n (λ i d h. below (suc i) d (omega arith)),
)

few_pages : (rs : List Region) → AreApart rs → AreBelow rs → sum_by pages_of rs ≤ 2 ^ 32
few_pages rs apart below = omega (
  arith,
  owned_most rs (2 ^ 32) apart,
  bytes_owned rs (2 ^ 32) (λ i d h. below i d h),
)

-- ---- the pages of the regions so far, and the next region's
pub pages_so_far : (rs : List Region) (pages more i : ℕ) (d : Region) → AreApart rs → AreBelow rs → i < length rs →
    pages ≡ sum_by pages_of (take i rs) → more ≡ pages_of (get_or rs i d) → pages + more ≤ 2 ^ 32
pages_so_far rs pages more i d apart below h is e =
    omega (arith, is, e, sum_by_more_le pages_of rs i d h, few_pages rs apart below)

pub pages_more : (rs : List Region) (pages more i : ℕ) (d : Region) → i < length rs →
    pages ≡ sum_by pages_of (take i rs) → more ≡ pages_of (get_or rs i d) →
    pages + more ≡ sum_by pages_of (take (i + 1) rs)
pages_more rs pages more i d h is e = omega (arith, is, e, sum_by_more pages_of rs i d h)

pub few_so_far : (rs : List Region) (pages i : ℕ) → AreApart rs → AreBelow rs →
    pages ≡ sum_by pages_of (take i rs) → pages ≤ 2 ^ 32
few_so_far rs pages i apart below is = omega (arith, is, sum_by-take-le pages_of rs i, few_pages rs apart below)
