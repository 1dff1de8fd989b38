-- Helping: how statements are judged.
use Rattle.sc_types_elab_stmt.specs.Common.{Callees, ExprTree, Scope, StmtKind, Ty, Visible, fold-StmtKind, goes_into}
use Rattle.sc_types_elab_stmt.specs.Common.{going_to, judged, typed}
use Rattle.std.specs.Prelude.{ℕ, Bool, true, false, ◌&&◌, List, [], ◌∷◌, Option, Some, None}
use Rattle.sc_types_elab_stmt.specs.Statements.{kind_type_lines}

-- the lines of a kind of statement at a line
abbrev pub lines_at : Visible → Callees → Scope → Option Ty → StmtKind → ℕ → List ℕ
lines_at visible callees scope result =
    fold-StmtKind (ℕ → List ℕ) (List ℕ) (kind_type_lines visible callees scope result) (λ s. s.kind s.line)

module _ (visible : Visible) (scope : Scope) where
  -- a value goes into a place of this type
  abbrev pub goes_in : Ty → ExprTree → Bool
  goes_in place value = goes_into place (judged scope (going_to place (typed visible value)))

  -- a local of this type may begin with this
  abbrev pub init_goes : Ty → Option ExprTree → Bool
  init_goes t None = true
  init_goes t (Some init) = goes_in t init

-- each of the arguments goes into its parameter, and there are as many
abbrev pub all_go : (Ty → ExprTree → Bool) → List Ty → List ExprTree → Bool
all_go goes [] [] = true
all_go goes (t ∷ types) (arg ∷ args) = goes t arg && all_go goes types args
all_go goes _ _ = false
