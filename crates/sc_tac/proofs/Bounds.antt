-- Code has no more branches than it weighs.
use Rattle.sc_tac.proofs.Common.{Each, List, TacStmt, TacStmt-F, [], arith, branch_step, branches, fold-roll-TacStmt}
use Rattle.sc_tac.proofs.Common.{map, map-TacStmt, roll-TacStmt, stmt_branches, stmt_weight, subst, sym, total, weight}
use Rattle.sc_tac.proofs.Common.{weight_step, ℕ, ◌∷◌, ◌≤◌}
use Rattle.sc_core.proofs.Induction.{everywhere}
use Rattle.sc_tac.specs.declared.stmt.TacStmt.TheOpen as tac
use Rattle.sc_tac.proofs.Induction.{Inside, stmt_induction}

abbrev Few : TacStmt → Type 0
Few stmt = stmt_branches stmt ≤ stmt_weight stmt

few_of_all : (stmts : List TacStmt) → Each Few stmts → total (map stmt_branches stmts) ≤ total (map stmt_weight stmts)
few_of_all [] h = omega arith
few_of_all (stmt ∷ rest) h = omega (arith, h.0, few_of_all rest h.1)

few_by_layer : (layer : TacStmt-F TacStmt) → Inside Few layer →
    branch_step (map-TacStmt _ _ stmt_branches layer) ≤ weight_step (map-TacStmt _ _ stmt_weight layer)
few_by_layer (tac.Const dest value) h = omega arith
few_by_layer (tac.Copy dest from) h = omega arith
few_by_layer (tac.Op dest op left right) h = omega arith
few_by_layer (tac.ObjectPlace dest object) h = omega arith
few_by_layer (tac.GlobalPlace dest global) h = omega arith
few_by_layer (tac.Load dest place pointer) h = omega arith
few_by_layer (tac.Store place value) h = omega arith
few_by_layer (tac.If cond first second) h = omega (arith, few_of_all first h.0, few_of_all second h.1)
few_by_layer (tac.Loop head body next) h =
    omega (arith, few_of_all head h.0, few_of_all body h.1, few_of_all next h.2)
few_by_layer tac.Break h = omega arith
few_by_layer tac.Continue h = omega arith
few_by_layer (tac.CallOwn dest function args) h = omega arith
few_by_layer (tac.CallCross dest comp index args) h = omega arith
few_by_layer (tac.Input dest) h = omega arith
few_by_layer (tac.Output value) h = omega arith
few_by_layer (tac.Alloc dest count words) h = omega arith
few_by_layer (tac.Free pointer) h = omega arith
few_by_layer (tac.Return value) h = omega arith

few : (stmt : TacStmt) → Few stmt
few = stmt_induction Few (λ layer h.
    subst (λ n. n ≤ stmt_weight (roll-TacStmt layer)) (sym (fold-roll-TacStmt ℕ branch_step layer))
    (subst (λ n. branch_step (map-TacStmt _ _ stmt_branches layer) ≤ n) (sym (fold-roll-TacStmt ℕ weight_step layer))
    (few_by_layer layer h)))

pub few_branches : (stmts : List TacStmt) → branches stmts ≤ weight stmts
few_branches stmts = few_of_all stmts (everywhere Few few stmts)
