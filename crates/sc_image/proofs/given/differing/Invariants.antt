use Rattle.sc_image.proofs.Common.{filter, is_kept, not, range_with_len, ◌≡◌}
use Rattle.sc_image.proofs.given.differing.Given as goal

abbrev pub invariant-loop-c : goal.invariant-loop-c
invariant-loop-c l = l.given ≡ filter (λ c. not (is_kept l.own l.image c)) (range_with_len 0 l.c)
