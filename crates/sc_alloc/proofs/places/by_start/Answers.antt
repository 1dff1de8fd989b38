use Rattle.sc_alloc.proofs.Common.{Interval, IsNonDecreasingBy, IsNonDecreasingBy-from_sort_by_key, IsStableByKey}
use Rattle.sc_alloc.proofs.Common.{answers_always, ap, nat_cmp, rules, sorted_by, ◌∙◌}
use Rattle.sc_alloc.proofs.Sorting.{sorted_is}
use Rattle.std.proofs.Common.{subst, sym, ◌^◌, ◌≤◌}
use Rattle.sc_alloc.proofs.Common.{IsPermutation}
use Rattle.std.proofs.lemmas.List.Sorted.{length_permutation}
use Rattle.sc_alloc.proofs.places.by_start.Goals as goal

pub returns-clause-rising : goal.returns-clause-rising
returns-clause-rising c =
    IsNonDecreasingBy-from_sort_by_key (λ (x : Interval). x.first) c.sort_by_key.new.self.items
    c.in_ok-sort_by_key.ensures.sorted (λ a r q k. search rules)

pub returns-clause-sorted : goal.returns-clause-sorted
returns-clause-sorted c =
    let first = λ (x : Interval). x.first in
    let order = c.sort_by_key.new.self.items in
    let up : IsNonDecreasingBy first order = IsNonDecreasingBy-from_sort_by_key first order
    c.in_ok-sort_by_key.ensures.sorted (λ a r q k. search rules) in
    let stable : IsStableByKey first nat_cmp c.in_ok-order.order.items order =
    c.sort_by_key.ensures.stable first (answers_always _ _ _ (λ f a r next called. search rules)) in
    sorted_is first c.in_ok-order.order.items order up stable ∙ ap (sorted_by first) c.in_ok-order.ensures.items

pub returns-clause-few : goal.returns-clause-few
returns-clause-few c =
    let moved : IsPermutation c.args.intervals.now c.sort_by_key.new.self.items = search rules in
    subst (λ n. n ≤ 2 ^ 32) (sym (length_permutation _ _ moved)) c.are_few.ensures
