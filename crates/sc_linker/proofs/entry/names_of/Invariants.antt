use Rattle.sc_linker.proofs.Common.{TypedFunction, map, take, ◌≡◌}
use Rattle.sc_linker.proofs.entry.names_of.Given as goal

abbrev pub invariant-loop-function : goal.invariant-loop-function
invariant-loop-function l = l.names ≡ map {A = TypedFunction} (λ f. f.name) (take l.function-index l.functions)
