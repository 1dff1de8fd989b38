-- The table of blocks and their list.
use Rattle.sc_zone.proofs.Common.{eq-eqb, Bool, List, None, Option, Some, Span, [], ap, arith, eqb-false, eqb-true}
use Rattle.sc_zone.proofs.Common.{false, get_or, if◌then◌else◌, length, ne_eqb, refl, set, slice_index, starts_at}
use Rattle.sc_zone.proofs.Common.{subst, suc, sym, true, with_span, without_span, words_at, zero, ℕ, ◌+◌, ◌<◌, ◌==◌}
use Rattle.sc_zone.proofs.Common.{◌||◌, ◌∙◌, ◌∷◌, ◌≡◌, ◌≤◌}
use Rattle.std.proofs.Common.{ap₂, length-append, replicate, ◌++◌}
use Rattle.std.proofs.lemmas.List.{get_or-set_other, get_or-set_same, length-replicate}
use Rattle.std.specs.Prelude.{is_some}
use Rattle.sc_zone.proofs.Taking.{first_put, later_put}
use Rattle.sc_zone.specs.Tables.{blocks_from}

pub none_listed : (table : List ℕ) (from : ℕ) → ((k : ℕ) → slice_index table k ≡ 0) → blocks_from from table ≡ []
none_listed [] from zeros = refl
none_listed (zero ∷ table) from zeros = none_listed table (suc from) (λ k. zeros (suc k))
none_listed (suc count ∷ table) from zeros = absurd (omega (arith, zeros 0))

-- tables that have the same numbers
pub same_listed : (table other : List ℕ) (from : ℕ) → ((k : ℕ) → slice_index table k ≡ slice_index other k) →
    blocks_from from table ≡ blocks_from from other
same_listed [] other from same = sym (none_listed other from (λ k. sym (same k)))
same_listed table [] from same = none_listed table from same
same_listed (zero ∷ table) (zero ∷ other) from same = same_listed table other (suc from) (λ k. same (suc k))
same_listed (zero ∷ table) (suc n ∷ other) from same = absurd (omega (arith, same 0))
same_listed (suc m ∷ table) (zero ∷ other) from same = absurd (omega (arith, same 0))
same_listed (suc m ∷ table) (suc n ∷ other) from same =
    ap₂ (λ c l. record { place = from; words = c } ∷ l) (same 0)
    (same_listed table other (suc from) (λ k. same (suc k)))

-- a block before all
first_listed : (table : List ℕ) (from : ℕ) (x : Span) → x.place < from →
    with_span x (blocks_from from table) ≡ x ∷ blocks_from from table
first_listed [] from x low = refl
first_listed (zero ∷ table) from x low = first_listed table (suc from) x (omega (arith, low))
first_listed (suc count ∷ table) from x low =
    first_put x (record { place = from; words = suc count }) (blocks_from (suc from) table) low

pub one_more : (table : List ℕ) (from k words place : ℕ) → place ≡ from + k → k < length table →
    slice_index table k ≡ 0 → 0 < words → blocks_from from (set table k words) ≡
    with_span (record { place = place; words = words }) (blocks_from from table)
one_more table from k zero place at low free some = absurd (omega (arith, some))
one_more [] from k (suc words) place at low free some = absurd (omega (arith, low))
one_more (suc count ∷ table) from zero (suc words) place at low free some = absurd (omega (arith, free))
one_more (zero ∷ table) from zero (suc words) place at low free some =
    let here : from ≡ place = omega (arith, at) in
    subst (λ n. record { place = from; words = suc words } ∷ blocks_from (suc from) table ≡
    with_span (record { place = n; words = suc words }) (blocks_from (suc from) table)) here
    (sym (first_listed table (suc from) (record { place = from; words = suc words }) (omega arith)))
one_more (zero ∷ table) from (suc k) (suc words) place at low free some =
    one_more table (suc from) k (suc words) place (omega (arith, at)) (omega (arith, low)) free some
one_more (suc count ∷ table) from (suc k) (suc words) place at low free some =
    ap (λ l. record { place = from; words = suc count } ∷ l)
    (one_more table (suc from) k (suc words) place (omega (arith, at)) (omega (arith, low)) free some) ∙
    sym (later_put (record { place = place; words = suc words }) (record { place = from; words = suc count })
    (blocks_from (suc from) table) (omega (arith, at)))

pub one_fewer : (table : List ℕ) (from k place : ℕ) → place ≡ from + k → 0 < slice_index table k →
    blocks_from from (set table k 0) ≡ without_span place (blocks_from from table)
one_fewer [] from k place at some = absurd (omega (arith, some))
one_fewer (zero ∷ table) from zero place at some = absurd (omega (arith, some))
one_fewer (suc count ∷ table) from zero place at some =
    ap (λ b. if b then blocks_from (suc from) table else
    record { place = from; words = suc count } ∷ without_span place (blocks_from (suc from) table))
    (sym (eq-eqb from place (omega (arith, at))))
one_fewer (zero ∷ table) from (suc k) place at some = one_fewer table (suc from) k place (omega (arith, at)) some
one_fewer (suc count ∷ table) from (suc k) place at some =
    ap (λ l. record { place = from; words = suc count } ∷ l)
    (one_fewer table (suc from) k place (omega (arith, at)) some) ∙
    ap (λ b. if b then blocks_from (suc from) table else
    record { place = from; words = suc count } ∷ without_span place (blocks_from (suc from) table))
    (sym (ne_eqb from place (λ e. omega (arith, e, at))))

-- a number other than 0
abbrev pub if_some : ℕ → Option ℕ
if_some zero = None
if_some (suc count) = Some (suc count)

none_low : (table : List ℕ) (from place : ℕ) → place < from → words_at (blocks_from from table) place ≡ None
none_low [] from place low = refl
none_low (zero ∷ table) from place low = none_low table (suc from) place (omega (arith, low))
none_low (suc count ∷ table) from place low =
    ap (λ b. if b then Some (suc count) else words_at (blocks_from (suc from) table) place)
    (ne_eqb from place (λ e. omega (arith, e, low))) ∙ none_low table (suc from) place (omega (arith, low))

pub words_listed : (table : List ℕ) (from k place : ℕ) → place ≡ from + k →
    words_at (blocks_from from table) place ≡ if_some (slice_index table k)
words_listed [] from k place at = refl
words_listed (zero ∷ table) from zero place at = none_low table (suc from) place (omega (arith, at))
words_listed (suc count ∷ table) from zero place at =
    ap (λ b. if b then Some (suc count) else words_at (blocks_from (suc from) table) place)
    (eq-eqb from place (omega (arith, at)))
words_listed (zero ∷ table) from (suc k) place at = words_listed table (suc from) k place (omega (arith, at))
words_listed (suc count ∷ table) from (suc k) place at =
    ap (λ b. if b then Some (suc count) else words_at (blocks_from (suc from) table) place)
    (ne_eqb from place (λ e. omega (arith, e, at))) ∙ words_listed table (suc from) k place (omega (arith, at))

-- where a block starts
pub starts_where : (spans : List Span) (place : ℕ) → starts_at spans place ≡ is_some (words_at spans place)
starts_where [] place = refl
starts_where (s ∷ spans) place = by (s.place == place) (starts_where spans place) where
  by : (b : Bool) → starts_at spans place ≡ is_some (words_at spans place) →
      (b || starts_at spans place) ≡ is_some (if b then Some s.words else words_at spans place)
  by true rest = refl
  by false rest = rest

pub none_without : (spans : List Span) (place : ℕ) → words_at spans place ≡ None → without_span place spans ≡ spans
none_without [] place none = refl
none_without (s ∷ spans) place none = by (s.place == place) none (none_without spans place) where
  by : (b : Bool) → (if b then Some s.words else words_at spans place) ≡ None →
      (words_at spans place ≡ None → without_span place spans ≡ spans) →
      (if b then spans else s ∷ without_span place spans) ≡ s ∷ spans
  by true none rest = cc none
  by false none rest = ap (λ l. s ∷ l) (rest none)

-- a longer table
with_zeros : (table : List ℕ) (more k : ℕ) → slice_index (table ++ replicate more 0) k ≡ slice_index table k
with_zeros [] zero k = refl
with_zeros [] (suc more) zero = refl
with_zeros [] (suc more) (suc k) = with_zeros [] more k
with_zeros (n ∷ table) more zero = refl
with_zeros (n ∷ table) more (suc k) = with_zeros table more k

pub set_index : (table : List ℕ) (at number q : ℕ) → at < length table →
    get_or (set table at number) q 0 ≡ (if q == at then number else get_or table q 0)
set_index table at number q low = by (q == at) refl where
  by : (r : Bool) → (q == at) ≡ r → get_or (set table at number) q 0 ≡ (if r then number else get_or table q 0)
  by true is = subst (λ n. get_or (set table at number) n 0 ≡ number) (sym (eqb-true q at is))
      (get_or-set_same table at number 0 low)
  by false is = get_or-set_other table at q number 0 (eqb-false q at is)

pub with_zero : (table : List ℕ) (k : ℕ) → slice_index (table ++ 0 ∷ []) k ≡ slice_index table k
with_zero table k = with_zeros table 1 k

pub past_end : (table : List ℕ) (k : ℕ) → length table ≤ k → slice_index table k ≡ 0
past_end [] k past = refl
past_end (n ∷ table) zero past = absurd (omega (arith, past))
past_end (n ∷ table) (suc k) past = past_end table k (omega (arith, past))

-- a table that has another number at one place
module _ (table now : List ℕ) (at number : ℕ)
    (is : (k : ℕ) → slice_index now k ≡ (if k == at then number else slice_index table k)) where
  abbrev long : List ℕ
  long = table ++ replicate (suc at) 0

  low : at < length long
  low = omega (arith, length-append table (replicate (suc at) 0), length-replicate {A = ℕ} (suc at) 0)

  same_set : (k : ℕ) → slice_index now k ≡ slice_index (set long at number) k
  same_set k = is k ∙ ap (λ n. if k == at then number else n) (sym (with_zeros table (suc at) k)) ∙
      sym (set_index long at number k low)

  same_long : blocks_from 0 long ≡ blocks_from 0 table
  same_long = same_listed long table 0 (with_zeros table (suc at))

  pub taken_list : slice_index table at ≡ 0 → 0 < number →
      blocks_from 0 now ≡ with_span (record { place = at; words = number }) (blocks_from 0 table)
  taken_list free some = same_listed now (set long at number) 0 same_set ∙
      one_more long 0 at number at (omega arith) low (with_zeros table (suc at) at ∙ free) some ∙
      ap (with_span (record { place = at; words = number })) same_long

  pub given_list : number ≡ 0 → 0 < slice_index table at → blocks_from 0 now ≡ without_span at (blocks_from 0 table)
  given_list none some = same_listed now (set long at number) 0 same_set ∙
      ap (λ n. blocks_from 0 (set long at n)) none ∙
      one_fewer long 0 at at (omega arith) (subst (λ n. 0 < n) (sym (with_zeros table (suc at) at)) some) ∙
      ap (without_span at) same_long
