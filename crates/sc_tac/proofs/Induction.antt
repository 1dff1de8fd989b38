-- Induction over statements of code, layer by layer.
use Rattle.sc_tac.proofs.Common.{Each, List, TacStmt, TacStmt-F, [], ind-TacStmt, map, map-TacStmt, roll-TacStmt, subst}
use Rattle.sc_tac.proofs.Common.{◌∷◌}
use Rattle.sc_tac.specs.declared.stmt.TacStmt.TheOpen as tac

-- P of each statement directly inside
abbrev pub Inside : (TacStmt → Type 0) → TacStmt-F TacStmt → Type 0
Inside P (tac.If cond first second) = Each P first × Each P second
Inside P (tac.Loop head body next) = Each P head × Each P body × Each P next
Inside P _ = Unit {0}

module _ (P : TacStmt → Type 0) where
  each : (stmts : List ((s : TacStmt) × P s)) → Each P (map (λ s. s.0) stmts)
  each [] = tt
  each (s ∷ rest) = (s.1, each rest)

  inside : (y : TacStmt-F ((s : TacStmt) × P s)) → Inside P (map-TacStmt _ _ (λ s. s.0) y)
  inside (tac.Const dest value) = tt
  inside (tac.Copy dest from) = tt
  inside (tac.Op dest op left right) = tt
  inside (tac.ObjectPlace dest object) = tt
  inside (tac.GlobalPlace dest global) = tt
  inside (tac.Load dest place pointer) = tt
  inside (tac.Store place value) = tt
  inside (tac.If cond first second) = (each first, each second)
  inside (tac.Loop head body next) = (each head, each body, each next)
  inside tac.Break = tt
  inside tac.Continue = tt
  inside (tac.CallOwn dest function args) = tt
  inside (tac.CallCross dest comp index args) = tt
  inside (tac.Input dest) = tt
  inside (tac.Output value) = tt
  inside (tac.Alloc dest count words) = tt
  inside (tac.Free pointer) = tt
  inside (tac.Return value) = tt

  -- To prove P of every statement, prove it of one where P holds of each statement directly inside.
  pub stmt_induction : ((layer : TacStmt-F TacStmt) → Inside P layer → P (roll-TacStmt layer)) → (s : TacStmt) → P s
  stmt_induction step = ind-TacStmt P (λ x y is. step x (subst (Inside P) is (inside y)))
