use Rattle.sc_lower.proofs.Common.{drop, lowered_function, map, ◌++◌, ◌≡◌}
use Rattle.sc_lower.proofs.program.lower_functions.Given as goal

abbrev pub invariant-loop-function : goal.invariant-loop-function
invariant-loop-function l =
    l.lowered ++ map (lowered_function l.interfaces l.comp l.structs) (drop l.function-index l.functions)
    ≡ map (lowered_function l.interfaces l.comp l.structs) l.functions
