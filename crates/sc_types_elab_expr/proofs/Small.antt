-- Numbers of cells that stop at the most, and at the last number of 32 bits before.
use Rattle.sc_types_elab_expr.proofs.Common.{arith, ℕ, ◌≡◌}
use Rattle.sc_ast.specs.Height.{limited}
use Rattle.std.specs.Prelude.{min}

pub min_limited : (n : ℕ) → min (limited n) 1048576 ≡ min n 1048576
min_limited n = grind arith

pub ruleset small = (min_limited)
