-- What the names of calls stand for.
use Rattle.sc_types_elab_expr.specs.Common.{CallTarget, Own, Signature}
use Rattle.std.specs.Prelude.{ℕ, List, Option, Some, None}

-- what a name stands for in a call: its function's types, by the definition or the first prototype of the section, and
-- who is called
pub record Callees : Type 0 where
  pub signature : List ℕ → Option Signature
  pub target : List ℕ → CallTarget

-- who is called: a function of the section, or what it imports
abbrev pub target_or : Option ℕ → CallTarget → CallTarget
target_or None imported = imported
target_or (Some place) imported = Own place
