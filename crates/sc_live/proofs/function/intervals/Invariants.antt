use Rattle.sc_live.proofs.Common.{function_points, interval_of, map, range_with_len, ◌≡◌}
use Rattle.sc_live.proofs.function.intervals.Given as goal

abbrev pub invariant-loop-temp : goal.invariant-loop-temp
invariant-loop-temp l = l.list ≡ map (interval_of (function_points l.f)) (range_with_len 0 l.temp)
