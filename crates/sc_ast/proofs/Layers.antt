-- A fold at an expression or a statement, by its layer: one equation for all forms, whose right side computes.
use Rattle.sc_ast.proofs.Common.{ExprTree, ExprTree-F, StmtKind, StmtKind-F, StmtTree, StmtTree-F, ap, fold-ExprTree}
use Rattle.sc_ast.proofs.Common.{fold-StmtKind, fold-StmtTree, fold-roll-ExprTree, fold-roll-StmtKind}
use Rattle.sc_ast.proofs.Common.{fold-roll-StmtTree, map-ExprTree, map-StmtKind, roll-ExprTree, roll-StmtKind, ℕ, ◌∙◌}
use Rattle.sc_ast.proofs.Common.{◌≡◌}

-- an expression's fold, by its layer
pub expr_at : {A : Type 0} (step : ExprTree-F A → A) (t : ExprTree-F ExprTree) →
    fold-ExprTree A step (roll-ExprTree t) ≡ step (map-ExprTree _ _ (fold-ExprTree A step) t)
expr_at {A} step t = fold-roll-ExprTree A step t

module _ (A B : Type 0) (kind_step : StmtKind-F A B → A) (stmt_step : StmtTree-F A B → B) where
  -- the fold of a kind, by its layer
  abbrev pub layer_of : StmtKind-F StmtKind StmtTree → A
  layer_of k = kind_step (map-StmtKind _ _ _ _ (fold-StmtKind A B kind_step stmt_step)
      (fold-StmtTree A B kind_step stmt_step) k)

  -- the fold of a statement, by its line and the layer of its kind
  pub stmt_at : (line : ℕ) (k : StmtKind-F StmtKind StmtTree) → fold-StmtTree A B kind_step stmt_step
      (record { line = line; kind = roll-StmtKind k }) ≡ stmt_step (record { line = line; kind = layer_of k })
  stmt_at line k = fold-roll-StmtTree A B kind_step stmt_step _ ∙ ap (λ x. stmt_step (record { line = line; kind = x }))
      (fold-roll-StmtKind A B kind_step stmt_step k)
