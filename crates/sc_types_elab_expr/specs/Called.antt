-- Helping: what the names of calls stand for by a section's tables.
use Rattle.sc_types_elab_expr.specs.Common.{CallTarget, Own, number_by_name}
use Rattle.std.specs.Prelude.{ℕ, List, Option, Some, None, slice_get}
use Rattle.std.specs.Option.{option_and_then}
use Rattle.sc_types_elab_expr.specs.Calls.{target_or}
use Rattle.sc_types_elab_expr.specs.Calls as calls
use Rattle.sc_types_elab_expr.specs.declared.callees.Callees.{Callees}

-- a target, where there is one
abbrev pub or_first_own : Option CallTarget → CallTarget
or_first_own None = Own 0
or_first_own (Some target) = target

-- who is called by the first import of a name
abbrev pub imported : Callees → List ℕ → Option CallTarget
imported callees name = option_and_then (slice_get callees.targets) (number_by_name callees.imports name)

abbrev pub called : Callees → calls.Callees
called callees = record {
  signature = λ name. option_and_then (slice_get callees.signatures) (number_by_name callees.heads name);
  target = λ name. target_or (number_by_name callees.functions name) (or_first_own (imported callees name));
}
