-- The greatest number of a chunk of a table.
use Rattle.sc_zone.proofs.Common.{List, ap, arith, cases_eq, cases_lt, refl, slice_index, subst, suc, sym, zero, ℕ}
use Rattle.sc_zone.proofs.Common.{if◌then◌else◌, length, ne_eqb, set, ◌==◌, ◌+◌, ◌<◌, ◌∙◌, ◌≡◌, ◌≢◌, ◌≤◌, ⊎_elim}
use Rattle.std.proofs.Common.{IfNone, IfSome, None, Option, Some, max, replicate, ◌*◌, ◌/◌}
use Rattle.std.proofs.lemmas.List.{get_or-set_other, get_or-set_same}
use Rattle.sc_zone.specs.Tables.{AreWidest, IsWidest}

-- the greatest number of the places from one on up to another
pub record IsGreatest (words : List ℕ) (from to most : ℕ) : Type 0 where
  pub bound : (place : ℕ) → from ≤ place → place < to → slice_index words place ≤ most
  pub least : (limit : ℕ) → 0 < limit →
      ((place : ℕ) → from ≤ place → place < to → slice_index words place < limit) → most < limit

pub none_greatest : (words : List ℕ) (from : ℕ) → IsGreatest words from from 0
none_greatest words from = record {
  bound = λ place low high. absurd (omega (arith, low, high));
  least = λ limit some below. some;
}

-- with one more
pub next_greatest : (words : List ℕ) (from to most now : ℕ) → from ≤ to → IsGreatest words from to most →
    now ≡ max (slice_index words to) most → IsGreatest words from (to + 1) now
next_greatest words from to most now low was is = record {
  bound = λ place up high. ⊎_elim
      (λ same. subst (λ n. slice_index words n ≤ now) (sym same) (omega (arith, is)))
      (λ other. omega (arith, was.bound place up (omega (arith, high, other)), is))
      (cases_eq place to);
  least = λ limit some below.
      let here = below to low (omega arith) in
      let rest = was.least limit some (λ place up high. below place up (omega (arith, high))) in
      omega (arith, here, rest, is);
}

-- a whole chunk, past the end of which the table has no numbers
pub chunk_greatest : (words : List ℕ) (chunk end most : ℕ) → end ≤ 256 * chunk + 256 →
    ((place : ℕ) → end ≤ place → place < 256 * chunk + 256 → slice_index words place ≡ 0) →
    IsGreatest words (256 * chunk) end most → IsWidest words chunk most
chunk_greatest words chunk end most last past is = record {
  bound = λ place at. ⊎_elim
      (λ inside. is.bound place (omega (arith, at)) inside)
      (λ outside. omega (arith, past place outside (omega (arith, at))))
      (cases_lt place end);
  least = λ limit some below. is.least limit some (λ place low high. below place (in_chunk place low (omega (
    arith,
    high,
    last,
  ))));
} where
  in_chunk : (place : ℕ) → 256 * chunk ≤ place → place < 256 * chunk + 256 → place / 256 ≡ chunk
  in_chunk place low high = omega (arith, low, high)

-- One number changes.

module _ (old words : List ℕ) (place before widest : ℕ) (was : IsWidest old (place / 256) widest)
    (had : slice_index old place ≡ before)
    (others : (k : ℕ) → k ≢ place → slice_index words k ≡ slice_index old k) where
  pub own_is : widest ≤ slice_index words place → IsWidest words (place / 256) (slice_index words place)
  own_is more = record {
    bound = λ k at. ⊎_elim
        (λ same. subst (λ n. slice_index words n ≤ slice_index words place) (sym same) (omega arith))
        (λ other. omega (arith, others k other, was.bound k at, more))
        (cases_eq k place);
    least = λ limit some below. below place refl;
  }

  pub stays : slice_index words place < widest → before < widest → IsWidest words (place / 256) widest
  stays less lower = record {
    bound = λ k at. ⊎_elim
        (λ same. subst (λ n. slice_index words n ≤ widest) (sym same) (omega (arith, less)))
        (λ other. omega (arith, others k other, was.bound k at))
        (cases_eq k place);
    least = λ limit some below. ⊎_elim
        (λ under. was.least limit some (old_under limit under below))
        (λ over. absurd (omega (
          arith,
          lower,
          was.least (before + 1) (omega arith)
              (old_under (before + 1) (omega arith) (λ k at. omega (arith, below k at, over))),
        )))
        (cases_lt before limit);
  } where
    old_under : (limit : ℕ) → before < limit → ((k : ℕ) → k / 256 ≡ place / 256 → slice_index words k < limit) →
        (k : ℕ) → k / 256 ≡ place / 256 → slice_index old k < limit
    old_under limit under below k at = ⊎_elim
        (λ same. subst (λ n. slice_index old n < limit) (sym same) (omega (arith, had, under)))
        (λ other. omega (arith, others k other, below k at))
        (cases_eq k place)

-- All chunks.

pub zeros_at : (count k : ℕ) → slice_index (replicate count 0) k ≡ 0
zeros_at zero k = refl
zeros_at (suc count) zero = refl
zeros_at (suc count) (suc k) = zeros_at count k

pub none_widest : (words widest : List ℕ) → ((k : ℕ) → slice_index words k ≡ 0) →
    ((k : ℕ) → slice_index widest k ≡ 0) → AreWidest words widest
none_widest words widest none zeros chunk = record {
  bound = λ place at. omega (arith, none place);
  least = λ limit some below. omega (arith, zeros chunk, some);
}

other_chunk : (old words : List ℕ) (chunk most : ℕ) → IsWidest old chunk most →
    ((k : ℕ) → k / 256 ≡ chunk → slice_index words k ≡ slice_index old k) → IsWidest words chunk most
other_chunk old words chunk most is same = record {
  bound = λ place at. omega (arith, same place at, is.bound place at);
  least = λ limit some below. is.least limit some (λ place at. omega (arith, same place at, below place at));
}

pub one_changes : (old words widest now : List ℕ) (place : ℕ) → AreWidest old widest →
    ((k : ℕ) → k ≢ place → slice_index words k ≡ slice_index old k) →
    ((chunk : ℕ) → chunk ≢ place / 256 → slice_index now chunk ≡ slice_index widest chunk) →
    IsWidest words (place / 256) (slice_index now (place / 256)) → AreWidest words now
one_changes old words widest now place are others same own chunk = ⊎_elim
    (λ here. subst (λ c. IsWidest words c (slice_index now c)) (sym here) own)
    (λ other. subst (IsWidest words chunk) (sym (same chunk other))
    (other_chunk old words chunk (slice_index widest chunk) (are chunk)
    (λ k at. others k (λ e. other (sym at ∙ ap (λ n. n / 256) e)))))
    (cases_eq chunk (place / 256))

pub set_widest : (old words widest seen tops : List ℕ) (place number before had most : ℕ) → AreWidest old widest →
    ((k : ℕ) → slice_index words k ≡ (if k == place then number else slice_index old k)) → seen ≡ words →
    tops ≡ widest → had ≡ slice_index tops (place / 256) → before ≡ slice_index old place →
    place / 256 < length widest →
    ((was : List ℕ) → IsWidest was (place / 256) had → slice_index was place ≡ before →
    ((k : ℕ) → k ≢ place → slice_index seen k ≡ slice_index was k) → IsWidest seen (place / 256) most) →
    AreWidest words (set widest (place / 256) most)
set_widest old words widest seen tops place number before had most are put same tops_are had_is before_is within now =
    one_changes old words widest (set widest (place / 256) most) place are unchanged
    (λ chunk other. get_or-set_other widest (place / 256) chunk most 0 other)
    (subst (IsWidest words (place / 256)) (sym (get_or-set_same widest (place / 256) most 0 within))
    (subst (λ l. IsWidest l (place / 256) most) same
    (now old (subst (IsWidest old (place / 256)) (sym is) (are (place / 256))) (sym before_is)
    (λ k other. ap (λ l. slice_index l k) same ∙ unchanged k other)))) where
      unchanged : (k : ℕ) → k ≢ place → slice_index words k ≡ slice_index old k
      unchanged k other = put k ∙ ap (λ b. if b then number else slice_index old k) (ne_eqb k place other)

      is : had ≡ slice_index widest (place / 256)
      is = had_is ∙ ap (λ l. slice_index l (place / 256)) tops_are

-- What is found.

-- the first place whose number isn't below a limit
pub record IsFirst (words : List ℕ) (limit : ℕ) (result : Option ℕ) : Type 0 where
  pub found : IfSome result (λ place. limit ≤ slice_index words place)
  pub first : IfSome result (λ place. (k : ℕ) → k < place → slice_index words k < limit)
  pub none : IfNone result ((k : ℕ) → slice_index words k < limit)

first_is : (words widest : List ℕ) (chunk place limit : ℕ) → AreWidest words widest →
    ((k : ℕ) → k < chunk → slice_index widest k < limit) →
    ((k : ℕ) → 256 * chunk ≤ k → k < place → slice_index words k < limit) →
    (k : ℕ) → k < place → slice_index words k < limit
first_is words widest chunk place limit are narrow first k low = ⊎_elim
    (λ before. omega (arith, (are (k / 256)).bound k refl, narrow (k / 256) (omega (arith, before))))
    (λ after. first k after low)
    (cases_lt k (256 * chunk))

one_is_wide : (words widest : List ℕ) (chunk limit : ℕ) → AreWidest words widest → 0 < limit →
    limit ≤ slice_index widest chunk → ((k : ℕ) → 256 * chunk ≤ k → slice_index words k < limit) → ⊥
one_is_wide words widest chunk limit are some wide none =
    omega (arith, wide, (are chunk).least limit some (λ place at. none place (low place at))) where
      low : (place : ℕ) → place / 256 ≡ chunk → 256 * chunk ≤ place
      low place at = omega (arith, at)

-- the chunk, and then the place in it
pub found_is : (words widest seen tops : List ℕ) (chunk limit : ℕ) (result : Option ℕ) → AreWidest words widest →
    seen ≡ words → tops ≡ widest → 0 < limit → limit ≤ slice_index tops chunk →
    ((k : ℕ) → 0 ≤ k → k < chunk → slice_index tops k < limit) →
    IfSome result (λ place. limit ≤ slice_index seen place) →
    IfSome result (λ place. (k : ℕ) → 256 * chunk ≤ k → k < place → slice_index seen k < limit) →
    IfNone result ((k : ℕ) → 256 * chunk ≤ k → slice_index seen k < limit) → IsFirst words limit result
found_is words widest seen tops chunk limit None are same tops_are some wide narrow found first none = absurd (
    one_is_wide words widest chunk limit are some
    (omega (arith, wide, ap (λ l. slice_index l chunk) tops_are))
    (λ k low. subst (λ l. slice_index l k < limit) same (none k low))
    )
found_is words widest seen tops chunk limit (Some place) are same tops_are some wide narrow found first none = record {
  found = subst (λ l. limit ≤ slice_index l place) same found;
  first = first_is words widest chunk place limit are
      (λ k low. subst (λ l. slice_index l k < limit) tops_are (narrow k (omega arith) low))
      (λ k low high. subst (λ l. slice_index l k < limit) same (first k low high));
  none = tt;
}

pub none_is_wide : (words widest : List ℕ) (limit : ℕ) → AreWidest words widest →
    ((k : ℕ) → slice_index widest k < limit) → (k : ℕ) → slice_index words k < limit
none_is_wide words widest limit are narrow k = omega (arith, (are (k / 256)).bound k refl, narrow (k / 256))

pub none_any : {A : Type 0} (result : Option A) {P : Type 0} → P → IfNone result P
none_any None is = is
none_any (Some x) is = tt
