-- Helping: where an expression stands.
use Rattle.sc_run_value.specs.Common.{Here}
use Rattle.std.specs.Prelude.{unsigned_abs}
use Rattle.sc_run_value.specs.declared.standing.Scope.{Scope}

-- the compartment and the first block of the call
abbrev pub here_of : Scope → Here
here_of scope = record { comp = scope.comp.now; first = unsigned_abs scope.first }
