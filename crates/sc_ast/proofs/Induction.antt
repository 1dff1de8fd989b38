-- Induction over expressions and statements, layer by layer.
use Rattle.sc_ast.proofs.Common.{ExprTree, ExprTree-F, List, StmtKind, StmtKind-F, StmtTree, [], ind-ExprTree}
use Rattle.sc_ast.proofs.Common.{ind-StmtTree, map, map-ExprTree, map-StmtKind, roll-ExprTree, roll-StmtKind}
use Rattle.sc_ast.proofs.Common.{roll-StmtTree, subst, ℕ, ◌∷◌}
pub use Rattle.sc_base.proofs.Lists.{Each, everywhere}
use Rattle.sc_ast.specs.declared.expr.ExprTree.TheOpen as term
use Rattle.sc_ast.specs.declared.stmt.StmtKind.TheOpen as layer

-- P of each expression directly inside
abbrev pub Under : (ExprTree → Type 0) → ExprTree-F ExprTree → Type 0
Under P (term.Unary op of) = P of
Under P (term.Binary op left right) = P left × P right
Under P (term.Index base index) = P base × P index
Under P (term.Member base name) = P base
Under P (term.Arrow base name) = P base
Under P (term.Deref of) = P of
Under P (term.Address of) = P of
Under P _ = Unit {0}

module _ (P : ExprTree → Type 0) where
  under : (y : ExprTree-F ((e : ExprTree) × P e)) → Under P (map-ExprTree _ _ (λ e. e.0) y)
  under (term.Unary op of) = of.1
  under (term.Binary op left right) = (left.1, right.1)
  under (term.Index base index) = (base.1, index.1)
  under (term.Member base name) = base.1
  under (term.Arrow base name) = base.1
  under (term.Deref of) = of.1
  under (term.Address of) = of.1
  under _ = tt

  -- To prove P of every expression, prove it of one where P holds of each expression directly inside.
  pub expr_induction : ((t : ExprTree-F ExprTree) → Under P t → P (roll-ExprTree t)) → (e : ExprTree) → P e
  expr_induction step = ind-ExprTree P (λ x y is. step x (subst (Under P) is (under y)))

-- P of each statement directly inside
abbrev pub Inside : (StmtTree → Type 0) → StmtKind-F StmtKind StmtTree → Type 0
Inside P (layer.If cond then_part else_part) = Each P then_part × Each P else_part
Inside P (layer.While cond body) = Each P body
Inside P (layer.For first cond next body) = Each P body
Inside P _ = Unit {0}

module _ (P : StmtTree → Type 0) where
  abbrev AnyLine : StmtKind → Type 0
  AnyLine kind = (line : ℕ) → P (record { line = line; kind = kind })

  each : (stmts : List ((s : StmtTree) × P s)) → Each P (map (λ s. s.0) stmts)
  each [] = tt
  each (s ∷ rest) = (s.1, each rest)

  inside : (y : StmtKind-F ((k : StmtKind) × AnyLine k) ((s : StmtTree) × P s)) →
      Inside P (map-StmtKind _ _ _ _ (λ k. k.0) (λ s. s.0) y)
  inside (layer.If cond then_part else_part) = (each _, each _)
  inside (layer.While cond body) = each body
  inside (layer.For first cond next body) = each body
  inside _ = tt

  -- To prove P of every statement, prove it of one where P holds of each statement directly inside.
  pub stmt_induction : ((line : ℕ) (k : StmtKind-F StmtKind StmtTree) → Inside P k →
      P (record { line = line; kind = roll-StmtKind k })) → (s : StmtTree) → P s
  stmt_induction step = ind-StmtTree AnyLine P (λ x y is line. step line x (subst (Inside P) is (inside y)))
      (λ x y is. subst (λ z. P (roll-StmtTree z)) is (y.kind.1 y.line))
