-- Induction over typed expressions and statements, layer by layer.
use Rattle.sc_core.proofs.Common.{List, Ty, TypedExpr, TypedKind, TypedKind-F, TypedStmt, TypedStmtKind}
use Rattle.sc_core.proofs.Common.{TypedStmtKind-F, [], ind-TypedExpr, ind-TypedStmt, map, map-TypedKind}
use Rattle.sc_core.proofs.Common.{map-TypedStmtKind, roll-TypedExpr, roll-TypedStmt, subst, ℕ, ◌∷◌}
pub use Rattle.sc_base.proofs.Lists.{Each, everywhere}
use Rattle.sc_core.specs.declared.stmt.TypedStmtKind.TheOpen as layer
use Rattle.sc_core.specs.declared.expr.TypedKind.TheOpen as term
use Rattle.sc_core.proofs.Layers.{typed, on_line}

-- P of each statement directly inside
abbrev pub Inside : (TypedStmt → Type 0) → TypedStmtKind-F TypedStmtKind TypedStmt → Type 0
Inside P (layer.If cond first second) = Each P first × Each P second
Inside P (layer.While cond body) = Each P body
Inside P (layer.For first cond next body) = Each P body
Inside P _ = Unit {0}

module _ (P : TypedStmt → Type 0) where
  abbrev AnyLine : TypedStmtKind → Type 0
  AnyLine kind = (line : ℕ) → P (record { line = line; kind = kind })

  each : (stmts : List ((s : TypedStmt) × P s)) → Each P (map (λ s. s.0) stmts)
  each [] = tt
  each (s ∷ rest) = (s.1, each rest)

  inside : (y : TypedStmtKind-F ((k : TypedStmtKind) × AnyLine k) ((s : TypedStmt) × P s)) →
      Inside P (map-TypedStmtKind _ _ _ _ (λ k. k.0) (λ s. s.0) y)
  inside (layer.If cond first second) = (each first, each second)
  inside (layer.While cond body) = each body
  inside (layer.For first cond next body) = each body
  inside _ = tt

  -- To prove P of every statement, prove it of one where P holds of each statement directly inside.
  pub stmt_induction : ((line : ℕ) (k : TypedStmtKind-F TypedStmtKind TypedStmt) → Inside P k → P (on_line line k)) →
      (s : TypedStmt) → P s
  stmt_induction step = ind-TypedStmt AnyLine P (λ x y is line. step line x (subst (Inside P) is (inside y)))
      (λ x y is. subst (λ z. P (roll-TypedStmt z)) is (y.kind.1 y.line))

-- P of each expression directly inside
abbrev pub Under : (TypedExpr → Type 0) → TypedKind-F TypedKind TypedExpr → Type 0
Under P (term.Unary o a) = P a
Under P (term.Binary o a b) = P a × P b
Under P (term.Index a b) = P a × P b
Under P (term.Member a offset) = P a
Under P (term.Arrow a offset) = P a
Under P (term.Deref a) = P a
Under P (term.Address a) = P a
Under P _ = Unit {0}

module _ (P : TypedExpr → Type 0) where
  abbrev AnyType : TypedKind → Type 0
  AnyType kind = (ty : Ty) → P (record { ty = ty; kind = kind })

  under : (y : TypedKind-F ((k : TypedKind) × AnyType k) ((e : TypedExpr) × P e)) →
      Under P (map-TypedKind _ _ _ _ (λ k. k.0) (λ e. e.0) y)
  under (term.Unary o a) = a.1
  under (term.Binary o a b) = (a.1, b.1)
  under (term.Index a b) = (a.1, b.1)
  under (term.Member a offset) = a.1
  under (term.Arrow a offset) = a.1
  under (term.Deref a) = a.1
  under (term.Address a) = a.1
  under _ = tt

  -- To prove P of every expression, prove it of one where P holds of each expression directly inside.
  pub expr_induction : ((ty : Ty) (k : TypedKind-F TypedKind TypedExpr) → Under P k → P (typed ty k)) →
      (e : TypedExpr) → P e
  expr_induction step = ind-TypedExpr AnyType P (λ x y is ty. step ty x (subst (Under P) is (under y)))
      (λ x y is. subst (λ z. P (roll-TypedExpr z)) is (y.kind.1 y.ty))
