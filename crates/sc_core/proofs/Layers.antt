-- A fold at an expression or a statement, by its layer: one equation for all forms, whose right side computes.
use Rattle.sc_core.proofs.Common.{List, Ty, TypedExpr, TypedExpr-F, TypedKind, TypedKind-F, TypedStmt, TypedStmt-F}
use Rattle.sc_core.proofs.Common.{TypedStmtKind, TypedStmtKind-F, ap, fold-TypedExpr, fold-TypedKind, fold-TypedStmt}
use Rattle.sc_core.proofs.Common.{fold-TypedStmtKind, fold-roll-TypedExpr, fold-roll-TypedKind, fold-roll-TypedStmt}
use Rattle.sc_core.proofs.Common.{fold-roll-TypedStmtKind, map-TypedKind, map-TypedStmtKind, roll-TypedKind}
use Rattle.sc_core.proofs.Common.{roll-TypedStmtKind, ℕ, ◌∙◌, ◌∷◌, ◌≡◌}

-- an expression of this type, by its layer
abbrev pub typed : Ty → TypedKind-F TypedKind TypedExpr → TypedExpr
typed ty k = record { ty = ty; kind = roll-TypedKind k }

module _ (A B : Type 0) (kind_step : TypedKind-F A B → A) (expr_step : TypedExpr-F A B → B) where
  abbrev pub term_of : TypedKind-F TypedKind TypedExpr → A
  term_of k = kind_step (map-TypedKind _ _ _ _ (fold-TypedKind A B kind_step expr_step)
      (fold-TypedExpr A B kind_step expr_step) k)

  -- the fold of an expression, by its type and the layer of its kind
  pub expr_at : (ty : Ty) (k : TypedKind-F TypedKind TypedExpr) →
      fold-TypedExpr A B kind_step expr_step (typed ty k) ≡ expr_step (record { ty = ty; kind = term_of k })
  expr_at ty k =
      fold-roll-TypedExpr A B _ _ _
      ∙ ap (λ x. expr_step (record { ty = ty; kind = x })) (fold-roll-TypedKind A B kind_step expr_step k)

-- a statement on a line, by its layer
abbrev pub on_line : ℕ → TypedStmtKind-F TypedStmtKind TypedStmt → TypedStmt
on_line line k = record { line = line; kind = roll-TypedStmtKind k }

module _ (A B : Type 0) (kind_step : TypedStmtKind-F A B → A) (stmt_step : TypedStmt-F A B → B) where
  abbrev pub layer_of : TypedStmtKind-F TypedStmtKind TypedStmt → A
  layer_of k = kind_step (map-TypedStmtKind _ _ _ _ (fold-TypedStmtKind A B kind_step stmt_step)
      (fold-TypedStmt A B kind_step stmt_step) k)

  -- the fold of a statement, by its line and the layer of its kind
  pub stmt_at : (line : ℕ) (k : TypedStmtKind-F TypedStmtKind TypedStmt) →
      fold-TypedStmt A B kind_step stmt_step (on_line line k) ≡ stmt_step (record { line = line; kind = layer_of k })
  stmt_at line k =
      fold-roll-TypedStmt A B _ _ _
      ∙ ap (λ x. stmt_step (record { line = line; kind = x })) (fold-roll-TypedStmtKind A B kind_step stmt_step k)

-- the folds of a list of statements, by those of the first and of the rest
pub next_line : {A B : Type 0} (kind_step : TypedStmtKind-F A B → A) (stmt_step : TypedStmt-F A B → B) (line : ℕ)
    (k : TypedStmtKind-F TypedStmtKind TypedStmt) {b : B} {bs cs : List B} →
    stmt_step (record { line = line; kind = layer_of A B kind_step stmt_step k }) ≡ b → bs ≡ cs →
    fold-TypedStmt A B kind_step stmt_step (on_line line k) ∷ bs ≡ b ∷ cs
next_line kind_step stmt_step line k is rest = λ i. (stmt_at _ _ kind_step stmt_step line k ∙ is) i ∷ rest i
