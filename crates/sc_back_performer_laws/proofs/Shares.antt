-- The rows of all entries are no more than the rows.
use Rattle.sc_back_performer_laws.proofs.Common.{Action, Bool, Entry, Export, Interface, Interfaces, List, Main, Proto}
use Rattle.sc_back_performer_laws.proofs.Common.{Row, [], ap₂, arith, eqb-true, false, filter, if◌then◌else◌, is_of}
use Rattle.sc_back_performer_laws.proofs.Common.{length, main_proto, map, refl, suc, total, true, ℕ, ◌++◌, ◌+◌, ◌<◌}
use Rattle.sc_back_performer_laws.proofs.Common.{◌==◌, ◌∙◌, ◌∷◌, ◌≡◌, ◌≤◌}
use Rattle.sc_back_performer_laws.proofs.BackTree.{entries_from, entries_of, main_entries}

abbrev one_if : Bool → ℕ
one_if true = 1
one_if false = 0

abbrev row_at : Entry → ℕ → Action → Row
row_at entry number action = record { entry = entry; number = number; action = action }

-- how many of the entries a row is of
abbrev hits : Row → List (Entry × Proto) → ℕ
hits row entries = total (map (λ e. one_if (is_of e.0 row)) entries)

-- how many rows the entries have
abbrev pub shares : List Row → List (Entry × Proto) → ℕ
shares rows entries = total (map (λ e. length (filter (is_of e.0) rows)) entries)

-- a row of an export that stands before is of none
none_hit : (j number : ℕ) (a : Action) (start : ℕ) (exports : List Proto) → j < start →
    hits (row_at (Export j) number a) (entries_from start exports) ≡ 0
none_hit j number a start [] before = refl
none_hit j number a start (f ∷ exports) before =
    ap₂ (λ b n. one_if b + n) (by (start == j) refl) (none_hit j number a (suc start) exports (omega arith)) ∙
    omega arith where
      by : (b : Bool) → (start == j) ≡ b → b ≡ false
      by true h = absurd (let e = eqb-true start j h in omega (arith, e, before))
      by false h = refl

one_hit : (j number : ℕ) (a : Action) (start : ℕ) (exports : List Proto) →
    hits (row_at (Export j) number a) (entries_from start exports) ≤ 1
one_hit j number a start [] = omega arith
one_hit j number a start (f ∷ exports) =
    by (start == j) refl (one_hit j number a (suc start) exports) (none_hit j number a (suc start) exports) where
      by : (b : Bool) → (start == j) ≡ b → hits (row_at (Export j) number a) (entries_from (suc start) exports) ≤ 1 →
          (j < suc start → hits (row_at (Export j) number a) (entries_from (suc start) exports) ≡ 0) →
          one_if b + hits (row_at (Export j) number a) (entries_from (suc start) exports) ≤ 1
      by true h some none =
          let e = eqb-true start j h in let n = none (omega (arith, e)) in omega (arith, n)
      by false h some none = omega (arith, some)

main_unhit : (number : ℕ) (a : Action) (start : ℕ) (exports : List Proto) →
    hits (row_at Main number a) (entries_from start exports) ≡ 0
main_unhit number a start [] = refl
main_unhit number a start (f ∷ exports) = let n = main_unhit number a (suc start) exports in omega (arith, n)

hits_append : (row : Row) (xs ys : List (Entry × Proto)) → hits row (xs ++ ys) ≡ hits row xs + hits row ys
hits_append row [] ys = omega arith
hits_append row (x ∷ xs) ys = omega (arith, hits_append row xs ys)

main_hits : (number : ℕ) (a : Action) (b : Bool) →
    hits (row_at Main number a) (if b then (Main, main_proto) ∷ [] else []) ≤ 1
main_hits number a true = omega arith
main_hits number a false = omega arith

export_misses : (j number : ℕ) (a : Action) (b : Bool) →
    hits (row_at (Export j) number a) (if b then (Main, main_proto) ∷ [] else []) ≡ 0
export_misses j number a true = omega arith
export_misses j number a false = refl

module _ (interfaces : Interfaces) (comp : ℕ) (interface : Interface) where
  abbrev entries : List (Entry × Proto)
  entries = entries_of interfaces comp interface

  one_entry : (entry : Entry) (number : ℕ) (a : Action) → hits (row_at entry number a) entries ≤ 1
  one_entry Main number a =
      let all = hits_append (row_at Main number a) (entries_from 0 interface.exports) (main_entries interfaces comp) in
      let prefix = main_unhit number a 0 interface.exports in
      let back = main_hits number a (comp == interfaces.main) in
      omega (arith, all, prefix, back)
  one_entry (Export j) number a =
      let all = hits_append (row_at (Export j) number a) (entries_from 0 interface.exports)
      (main_entries interfaces comp) in
      let prefix = one_hit j number a 0 interface.exports in
      let back = export_misses j number a (comp == interfaces.main) in
      omega (arith, all, prefix, back)

  one_more : (test : Row → Bool) (row : Row) (rows : List Row) →
      length (filter test (row ∷ rows)) ≡ one_if (test row) + length (filter test rows)
  one_more test row rows = by (test row) where
    by : (b : Bool) → length (if b then row ∷ filter test rows else filter test rows) ≡
        one_if b + length (filter test rows)
    by true = omega arith
    by false = omega arith

  shares_more : (row : Row) (rows : List Row) (others : List (Entry × Proto)) →
      shares (row ∷ rows) others ≡ hits row others + shares rows others
  shares_more row rows [] = omega arith
  shares_more row rows (e ∷ others) =
      omega (arith, one_more (is_of e.0) row rows, shares_more row rows others)

  shares_none : (others : List (Entry × Proto)) → shares [] others ≡ 0
  shares_none [] = refl
  shares_none (e ∷ others) = omega (arith, shares_none others)

  pub shares_within : (rows : List Row) → shares rows entries ≤ length rows
  shares_within [] = omega (arith, shares_none entries)
  shares_within (row ∷ rows) =
      omega (arith, shares_more row rows entries, one_entry row.entry row.number row.action, shares_within rows)
