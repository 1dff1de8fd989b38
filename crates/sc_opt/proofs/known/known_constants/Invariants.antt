use Rattle.std.proofs.Common.{map, ◌≡◌}
use Rattle.std.specs.List.{range_with_len}
use Rattle.sc_opt.specs.Prelude.{assigned_at, known_constant}
use Rattle.sc_opt.proofs.known.known_constants.Given as goal

abbrev pub invariant-loop-temp : goal.invariant-loop-temp
invariant-loop-temp l = l.constants ≡ map (known_constant (assigned_at l.facts)) (range_with_len 0 l.temp)
