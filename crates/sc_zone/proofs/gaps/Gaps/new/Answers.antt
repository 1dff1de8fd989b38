-- There are only zeros.
use Rattle.sc_zone.proofs.Common.{ap, slice_index, ◌∙◌}
use Rattle.std.proofs.Common.{rules}
use Rattle.sc_zone.proofs.Widest.{none_widest, zeros_at}
use Rattle.sc_zone.proofs.gaps.Gaps.new.Goals as goal

pub invariant_of-result-clause-are_widest : goal.invariant_of-result-clause-are_widest
invariant_of-result-clause-are_widest c =
    let zeros = c.in_ok-widest.ensures.items_if_clones_equal (λ y is. search rules) in
    none_widest c.in_ok-words.words.items c.in_ok-widest.widest.items
    (λ k. ap (λ l. slice_index l k) c.in_ok-words.ensures.items)
    (λ k. ap (λ l. slice_index l k) zeros ∙ zeros_at 257 k)
