-- The index of the rules of each state, as rules are added.
use Rattle.sc_policy.proofs.Common.{Bool, IsIndex, IsTrue, List, Rule, [], ap, arith, eqb-false, eqb-true, false}
use Rattle.sc_policy.proofs.Common.{get_or-set_other}
use Rattle.sc_policy.proofs.Common.{get_or-set_same, if◌then◌else◌, length, length-append, most_rules, places_from}
use Rattle.sc_policy.proofs.Common.{places_of, refl}
use Rattle.sc_policy.proofs.Common.{slice_index_or, slice_set, subst, suc, sym, true, with_place, zero, zero-add, ℕ}
use Rattle.sc_policy.proofs.Common.{◌++◌}
use Rattle.sc_policy.proofs.Common.{◌+◌, ◌<◌, ◌==◌, ◌∙◌, ◌∷◌, ◌≡◌, ◌≢◌, ◌≤◌, ◌↔◌}

-- an empty list more says as much
pub none_more : (index : List (List ℕ)) (state : ℕ) →
    slice_index_or (index ++ [] ∷ []) state [] ≡ slice_index_or index state []
none_more [] zero = refl
none_more [] (suc state) = refl
none_more (places ∷ index) zero = refl
none_more (places ∷ index) (suc state) = none_more index state

pub placed : (index : List (List ℕ)) (state place other : ℕ) → state < length index →
    slice_index_or (slice_set index state (slice_index_or index state [] ++ place ∷ [])) other [] ≡
    with_place index state place other
placed index state place other within = by (state == other) refl where
  after : List (List ℕ)
  after = slice_set index state (slice_index_or index state [] ++ place ∷ [])

  by : (same : Bool) → (state == other) ≡ same → slice_index_or after other [] ≡
      (if same then slice_index_or index other [] ++ place ∷ [] else slice_index_or index other [])
  by true is =
      let here : state ≡ other = eqb-true state other is in
      subst (λ n. slice_index_or after n [] ≡ slice_index_or index n [] ++ place ∷ []) here
      (get_or-set_same index state (slice_index_or index state [] ++ place ∷ []) [] within)
  by false is = get_or-set_other index state other _ [] (λ same. eqb-false state other is (sym same))

one_more : (rules : List Rule) (rule : Rule) (at state : ℕ) → places_from at (rules ++ rule ∷ []) state ≡
    (if rule.state == state then places_from at rules state ++ (at + length rules) ∷ [] else places_from at rules state)
one_more [] rule at state =
    let here : at ≡ at + 0 = omega arith in ap (λ n. if rule.state == state then n ∷ [] else []) here
one_more (first ∷ rules) rule at state =
    let count : suc at + length rules ≡ at + suc (length rules) = omega arith in
    by (first.state == state) (rule.state == state)
    (one_more rules rule (suc at) state ∙
    ap (λ n. if rule.state == state then places_from (suc at) rules state ++ n ∷ [] else
    places_from (suc at) rules state) count)
  where
    by : (here last : Bool) → places_from (suc at) (rules ++ rule ∷ []) state ≡
        (if last then places_from (suc at) rules state ++ (at + suc (length rules)) ∷ [] else
        places_from (suc at) rules state) →
        (if here then at ∷ places_from (suc at) (rules ++ rule ∷ []) state else
        places_from (suc at) (rules ++ rule ∷ []) state) ≡
        (if last then (if here then at ∷ places_from (suc at) rules state else places_from (suc at) rules state) ++
        (at + suc (length rules)) ∷ [] else
        (if here then at ∷ places_from (suc at) rules state else places_from (suc at) rules state))
    by true true is = ap (λ places. at ∷ places) is
    by true false is = ap (λ places. at ∷ places) is
    by false true is = is
    by false false is = is

pub indexed : (rules : List Rule) (rule : Rule) (before after : List (List ℕ)) → IsIndex rules before →
    ((state : ℕ) → slice_index_or after state [] ≡ with_place before rule.state (length rules) state) →
    IsIndex (rules ++ rule ∷ []) after
indexed rules rule before after is placed state =
    placed state ∙
    ap (λ places. if rule.state == state then places ++ length rules ∷ [] else places) (is state) ∙
    ap (λ n. if rule.state == state then places_of rules state ++ n ∷ [] else places_of rules state)
    (sym (zero-add (length rules))) ∙ sym (one_more rules rule 0 state)

room : (full : Bool) (rules : List Rule) (rule : Rule) → (IsTrue full ↔ (most_rules ≤ length rules)) → full ≡ false →
    length (rules ++ rule ∷ []) ≤ most_rules
room true rules rule is unfilled = cc unfilled
room false rules rule is unfilled =
    let count : length (rules ++ rule ∷ []) ≡ length rules + 1 = length-append rules (rule ∷ []) in
    let low : (most_rules ≤ length rules) → ⊥ = λ many. cc (is.1 many) in omega (arith, count, low)

-- rules with one more, and its place in the index
pub one_more_kept : (full : Bool) (rules : List Rule) (rule : Rule) (before after : List (List ℕ)) (place : ℕ) →
    (IsTrue full ↔ (most_rules ≤ length rules)) → full ≡ false → IsIndex rules before → place ≡ length rules →
    ((state : ℕ) → slice_index_or after state [] ≡ with_place before rule.state place state) →
    (length (rules ++ rule ∷ []) ≤ most_rules) × IsIndex (rules ++ rule ∷ []) after
one_more_kept full rules rule before after place is unfilled indexes here placed = (
  room full rules rule is unfilled,
  indexed rules rule before after indexes
      (subst (λ n. (state : ℕ) → slice_index_or after state [] ≡ with_place before rule.state n state) here placed),
)
