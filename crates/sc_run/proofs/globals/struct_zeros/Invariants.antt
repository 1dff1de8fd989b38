use Rattle.sc_run.proofs.Common.{[], drop, struct_zeros, ◌≡◌}
use Rattle.sc_run.proofs.globals.struct_zeros.Given as goal

abbrev pub invariant-loop-found : goal.invariant-loop-found
invariant-loop-found l = struct_zeros l.known.items (drop l.found-index l.structs) ≡ struct_zeros [] l.structs
