-- What code tests of each statement holds of the one that alone assigns a temporary, by a constant or by a copy.
use Rattle.std.proofs.Common.{Bool, List, None, Some, [], eqb-true, false, if◌then◌else◌, map, refl, subst}
use Rattle.std.proofs.Common.{sym, true, ℕ, ◌==◌, ◌||◌, ◌∙◌, ◌∷◌, ◌≡◌}
use Rattle.sc_base.proofs.Bools.{and_first, and_rest}
use Rattle.sc_core.proofs.Induction.{Each, everywhere as everywhere_in}
use Rattle.sc_tac.proofs.Induction.{Inside, stmt_induction}
use Rattle.sc_tac.specs.Prelude.{all_true, everywhere, with_parts}
use Rattle.sc_tac.specs.declared.stmt.Constant.{Constant}
use Rattle.sc_tac.specs.declared.stmt.TacStmt.{TacStmt, TacStmt-F, fold-TacStmt, fold-roll-TacStmt, map-TacStmt}
use Rattle.sc_tac.specs.declared.stmt.TacStmt.TheOpen as tac
use Rattle.sc_opt.specs.Pass.{assigned, assigned_in, assigned_step, joined}
use Rattle.sc_opt.specs.declared.facts.Assigned.{Assigned}
use Rattle.sc_opt.specs.declared.facts.Assigned.TheVariants.{ByConstant, ByCopy, ByOperator, Nowhere, Otherwise}

module _ (test : TacStmt-F Bool → Bool) (t : ℕ) where
  -- of the one statement that assigns it so
  abbrev pub Found : Assigned → Type 0
  Found (ByConstant c) = test (tac.Const t c) ≡ true
  Found (ByCopy from) = test (tac.Copy t from) ≡ true
  Found _ = Unit {0}

  both_found : (x y : Assigned) → Found x → Found y → Found (joined x y)
  both_found Nowhere y f g = g
  both_found (ByConstant c) Nowhere f g = f
  both_found (ByCopy u) Nowhere f g = f
  both_found (ByOperator o left right) Nowhere f g = tt
  both_found Otherwise Nowhere f g = tt
  both_found x y f g = tt

  abbrev holds : TacStmt → Bool
  holds = fold-TacStmt Bool (with_parts test)

  abbrev Finds : TacStmt → Type 0
  Finds stmt = holds stmt ≡ true → Found (assigned t stmt)

  row_finds : (stmts : List TacStmt) → Each Finds stmts → all_true (map holds stmts) ≡ true →
      Found (assigned_in t stmts)
  row_finds [] each h = tt
  row_finds (s ∷ rest) each h = both_found (assigned t s) (assigned_in t rest) (each.0 (and_first (holds s) _ h))
      (row_finds rest each.1 (and_rest (holds s) _ h))

  operator_found : (x : Assigned) → Found x → (b : Bool) → Found (if b then x else Nowhere)
  operator_found x f true = f
  operator_found x f false = tt

  otherwise_found : (b : Bool) → Found (if b then Otherwise else Nowhere)
  otherwise_found true = tt
  otherwise_found false = tt

  constant_found : (d : ℕ) (value : Constant) → test (tac.Const d value) ≡ true → (b : Bool) → (d == t) ≡ b →
      Found (if b then ByConstant value else Nowhere)
  constant_found d value h true is = subst (λ d. test (tac.Const d value) ≡ true) (eqb-true d t is) h
  constant_found d value h false is = tt

  copy_found : (d from : ℕ) → test (tac.Copy d from) ≡ true → (b : Bool) → (d == t) ≡ b →
      Found (if b then ByCopy from else Nowhere)
  copy_found d from h true is = subst (λ d. test (tac.Copy d from) ≡ true) (eqb-true d t is) h
  copy_found d from h false is = tt

  layer_finds : (k : TacStmt-F TacStmt) → Inside Finds k → with_parts test (map-TacStmt _ _ holds k) ≡ true →
      Found (assigned_step t (map-TacStmt _ _ (assigned t) k))
  layer_finds (tac.Const d value) i h = constant_found d value (and_first (test (tac.Const d value)) true h)
      (d == t) refl
  layer_finds (tac.Copy d from) i h = copy_found d from (and_first (test (tac.Copy d from)) true h) (d == t) refl
  layer_finds (tac.Op d o left right) i h = operator_found (ByOperator o left right) tt (d == t)
  layer_finds (tac.ObjectPlace d object) i h = otherwise_found (d == t || false)
  layer_finds (tac.GlobalPlace d global) i h = otherwise_found (d == t || false)
  layer_finds (tac.Load d place pointer) i h = otherwise_found (d == t || false)
  layer_finds (tac.Store place value) i h = tt
  layer_finds (tac.If cond a b) i h =
      let all = and_rest (test (tac.If cond (map holds a) (map holds b))) _ h in
      both_found (assigned_in t a) (assigned_in t b) (row_finds a i.0 (and_first (all_true (map holds a)) _ all))
      (row_finds b i.1 (and_first (all_true (map holds b)) true (and_rest (all_true (map holds a)) _ all)))
  layer_finds (tac.Loop a b c) i h =
      let all = and_rest (test (tac.Loop (map holds a) (map holds b) (map holds c))) _ h in
      let later = and_rest (all_true (map holds a)) _ all in
      both_found (assigned_in t a) (joined (assigned_in t b) (assigned_in t c))
      (row_finds a i.0 (and_first (all_true (map holds a)) _ all))
      (both_found (assigned_in t b) (assigned_in t c) (row_finds b i.1 (and_first (all_true (map holds b)) _ later))
      (row_finds c i.2 (and_first (all_true (map holds c)) true (and_rest (all_true (map holds b)) _ later))))
  layer_finds tac.Break i h = tt
  layer_finds tac.Continue i h = tt
  layer_finds (tac.CallOwn None function args) i h = tt
  layer_finds (tac.CallOwn (Some d) function args) i h = otherwise_found (d == t || false)
  layer_finds (tac.CallCross None comp index args) i h = tt
  layer_finds (tac.CallCross (Some d) comp index args) i h = otherwise_found (d == t || false)
  layer_finds (tac.Input None) i h = tt
  layer_finds (tac.Input (Some d)) i h = otherwise_found (d == t || false)
  layer_finds (tac.Output value) i h = tt
  layer_finds (tac.Alloc d count words) i h = otherwise_found (d == t || false)
  layer_finds (tac.Free pointer) i h = tt
  layer_finds (tac.Return value) i h = tt

  stmt_finds : (stmt : TacStmt) → Finds stmt
  stmt_finds = stmt_induction Finds (λ k i h. subst Found (sym (fold-roll-TacStmt Assigned (assigned_step t) k))
      (layer_finds k i (sym (fold-roll-TacStmt Bool (with_parts test) k) ∙ h)))

  pub found_in : (body : List TacStmt) → everywhere test body ≡ true → Found (assigned_in t body)
  found_in body h = row_finds body (everywhere_in Finds stmt_finds body) h
