use Rattle.sc_parse.proofs.Common.{[], adds, after_inner_comma, const_at, length, separated, ◌+◌, ◌-◌, ◌≡◌}
use Rattle.sc_parse.proofs.globals.all_consts.Given as goal

-- what is read is what the rest of the loop reads
abbrev pub invariant-loop : goal.invariant-loop
invariant-loop l = separated after_inner_comma (adds const_at) (length l.initial.rest + 1) [] l.initial.rest ≡
    separated after_inner_comma (adds const_at) (length l.initial.rest + 1 - l.counter) l.values l.rest
