-- The rule that an event takes is found among the places of its state's rules.
use Rattle.sc_monitor.proofs.Common.{Bool, Event, Interfaces, List, None, Option, Rule, Some, [], ap, arith, cond}
use Rattle.sc_monitor.proofs.Common.{false}
use Rattle.sc_monitor.proofs.Common.{find, if◌then◌else◌, length, matches, matches_at, option_map, option_map_or}
use Rattle.sc_monitor.proofs.Common.{places_from, places_of, position, position-cons, refl, rule_for}
use Rattle.sc_monitor.proofs.Common.{slice_get, slice_index}
use Rattle.sc_monitor.proofs.Common.{suc}
use Rattle.sc_base.proofs.Lists.{position_within}
use Rattle.sc_monitor.proofs.Common.{sym, true, zero-add, ℕ, ◌&&◌, ◌+◌, ◌<◌, ◌==◌, ◌∙◌, ◌∷◌, ◌≡◌}

module _ (rules : List Rule) (interfaces : Interfaces) (event : Event) (state : ℕ) where
  abbrev hits : Option Rule → Bool
  hits rule = option_map_or (λ (rule : Rule). matches interfaces rule.pattern event) rule false

  abbrev takes : Rule → Bool
  takes rule = rule.state == state && matches interfaces rule.pattern event

  counted : (at : ℕ) (found : Option ℕ) →
      option_map (λ i. suc at + i) found ≡ option_map (λ i. at + i) (option_map suc found)
  counted at None = refl
  counted at (Some i) = let same : suc at + i ≡ at + suc i = omega arith in ap Some same

  module _ (test : ℕ → Bool) where
    found_from : (at : ℕ) (some : List Rule) → ((i : ℕ) → test (at + i) ≡ hits (slice_get some i)) →
        find test (places_from at some state) ≡ option_map (λ i. at + i) (position takes some)
    found_from at [] is = refl
    found_from at (rule ∷ some) is =
        let here : at + 0 ≡ at = omega arith in
        let later = found_from (suc at) some (λ i. (let next : suc at + i ≡ at + suc i = omega arith in
        ap test next ∙ is (suc i))) in
        by (rule.state == state) (matches interfaces rule.pattern event) (sym (ap test here) ∙ is 0) here
        (later ∙ counted at (position takes some)) ∙
        ap (option_map (λ i. at + i)) (sym (position-cons takes rule some))
      where
        by : (its hit : Bool) → test at ≡ hit → at + 0 ≡ at →
            find test (places_from (suc at) some state) ≡
            option_map (λ i. at + i) (option_map suc (position takes some)) →
            find test (if its then at ∷ places_from (suc at) some state else places_from (suc at) some state) ≡
            option_map (λ i. at + i) (cond (its && hit) (Some 0) (option_map suc (position takes some)))
        by true true is here later = rw is (ap Some (sym here))
        by true false is here later = rw is later
        by false hit is here later = later

  from_zero : (found : Option ℕ) → option_map (λ i. 0 + i) found ≡ found
  from_zero None = refl
  from_zero (Some i) = ap Some (zero-add i)

  abbrev test_at : ℕ → Bool
  test_at = matches_at rules interfaces event

  abbrev places : List ℕ
  places = places_of rules state

  found : find test_at places ≡ rule_for rules interfaces state event
  found = found_from test_at 0 rules (λ i. ap test_at (zero-add i)) ∙ from_zero (position takes rules)

  by_position : (xs : List ℕ) → find test_at xs ≡ option_map (λ k. slice_index xs k) (position test_at xs)
  by_position [] = refl
  by_position (x ∷ xs) = by (test_at x) refl (by_position xs) ∙ ap (option_map (λ k. slice_index (x ∷ xs) k))
      (sym (position-cons test_at x xs))
    where
      later : (at : Option ℕ) → option_map (λ k. slice_index xs k) at ≡
          option_map (λ k. slice_index (x ∷ xs) k) (option_map suc at)
      later None = refl
      later (Some k) = refl

      by : (hit : Bool) → test_at x ≡ hit →
          find test_at xs ≡ option_map (λ k. slice_index xs k) (position test_at xs) →
          find test_at (x ∷ xs) ≡
          option_map (λ k. slice_index (x ∷ xs) k) (cond (test_at x) (Some 0) (option_map suc (position test_at xs)))
      by true is after = rw is refl
      by false is after = rw is (after ∙ later (position test_at xs))

  pub none_taken : None ≡ position test_at places → None ≡ rule_for rules interfaces state event
  none_taken none = ap (option_map (λ k. slice_index places k)) none ∙ sym (by_position places) ∙ found

  pub taken : (k : ℕ) → Some k ≡ position test_at places →
      Some (slice_index places k) ≡ rule_for rules interfaces state event
  taken k at = ap (option_map (λ k. slice_index places k)) at ∙ sym (by_position places) ∙ found

  pub taken_within : (place : ℕ) → Some place ≡ rule_for rules interfaces state event → place < length rules
  taken_within place is = position_within takes rules place (sym is)
