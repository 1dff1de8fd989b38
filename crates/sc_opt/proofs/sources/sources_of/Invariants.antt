use Rattle.std.proofs.Common.{map, ◌≡◌}
use Rattle.std.specs.List.{range_with_len}
use Rattle.sc_opt.specs.Prelude.{assigned_at, copy_source}
use Rattle.sc_opt.proofs.sources.sources_of.Given as goal

abbrev pub invariant-loop-temp : goal.invariant-loop-temp
invariant-loop-temp l = l.sources ≡ map (copy_source (assigned_at l.facts)) (range_with_len 0 l.temp)
