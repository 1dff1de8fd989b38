use Rattle.sc_parse_expr.proofs.Common.{drop, length, star_count, ◌+◌, ◌≡◌}
use Rattle.sc_parse_expr.proofs.types.take_stars.Given as goal

-- as many stars as the turns that were taken, and those that are left
abbrev pub invariant-loop : goal.invariant-loop
invariant-loop l = (l.count ≡ l.counter) × (length l.rest + l.counter ≡ length l.initial.rest) ×
    (l.count + star_count l.rest ≡ star_count l.initial.rest) ×
    (drop (star_count l.rest) l.rest ≡ drop (star_count l.initial.rest) l.initial.rest)
