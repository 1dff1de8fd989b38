use Rattle.std.proofs.Common.{map, take, ◌≡◌}
use Rattle.sc_opt.specs.Prelude.{optimised_function}
use Rattle.sc_opt.proofs.program.optimise_functions.Given as goal

abbrev pub invariant-loop-f : goal.invariant-loop-f
invariant-loop-f l = l.optimised ≡ map optimised_function (take l.f-index l.functions)
