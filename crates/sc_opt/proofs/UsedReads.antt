-- What the code that the pass gives reads is used.
use Rattle.std.proofs.Common.{Bool, List, None, Option, Some, [], eq-eqb, false, map, not, refl, true, ℕ, ◌&&◌}
use Rattle.std.proofs.Common.{◌==◌, ◌||◌, ◌∙◌, ◌∷◌, ◌≡◌}
use Rattle.std.proofs.lemmas.Bool.{and_from, or_left, or_right}
use Rattle.std.specs.List.{list_all}
use Rattle.sc_core.proofs.Induction.{Each, everywhere as everywhere_in}
use Rattle.sc_tac.proofs.Induction.{Inside, stmt_induction}
use Rattle.sc_tac.specs.Parts.{parts}
use Rattle.sc_tac.specs.Prelude.{all_true, one_or_none, some_hold, with_parts}
use Rattle.sc_tac.specs.declared.stmt.Constant.{Constant}
use Rattle.sc_tac.specs.declared.stmt.TacStmt.{TacStmt, TacStmt-F, fold-TacStmt, fold-roll-TacStmt, map-TacStmt}
use Rattle.sc_tac.specs.declared.stmt.TacStmt.TheOpen as tac
use Rattle.sc_opt.specs.Pass.{all_used, folded, is_read, reads_here, reads_some, reads_unless, reads_used}
use Rattle.sc_opt.specs.Pass.{reads_within, unless_folded}

module _ (constants : ℕ → Option Constant) (source : ℕ → ℕ) (used holds_word : ℕ → Bool) where
  all_are : (temps : List ℕ) → ((x : ℕ) → reads_some source x temps ≡ true → used x ≡ true) →
      all_used source used temps ≡ true
  all_are [] h = refl
  all_are (t ∷ ts) h = and_from (used (source t)) _
      (h (source t) (or_left (source t == source t) _ (eq-eqb (source t) (source t) refl)))
      (all_are ts (λ x r. h x (or_right (source t == x) _ r)))

  unless_are : (f : Option Constant) (temps : List ℕ) →
      ((x : ℕ) → reads_unless source f x temps ≡ true → used x ≡ true) →
      unless_folded source used f temps ≡ true
  unless_are (Some c) temps h = refl
  unless_are None temps h = all_are temps h

  copy_is : (same : Bool) (r : ℕ) → ((x : ℕ) → (not same && r == x) ≡ true → used x ≡ true) → (same || used r) ≡ true
  copy_is true r h = refl
  copy_is false r h = h r (eq-eqb r r refl)

  abbrev test : TacStmt → Bool
  test = fold-TacStmt Bool (with_parts (reads_used constants source used))

  abbrev reads : ℕ → TacStmt → Bool
  reads x = fold-TacStmt Bool (reads_within constants source x)

  abbrev Good : TacStmt → Type 0
  Good stmt = ((x : ℕ) → reads x stmt ≡ true → used x ≡ true) → test stmt ≡ true

  row_good : (stmts : List TacStmt) → Each Good stmts →
      ((x : ℕ) → some_hold (map (reads x) stmts) ≡ true → used x ≡ true) → all_true (map test stmts) ≡ true
  row_good [] each h = refl
  row_good (x ∷ rest) each h = and_from (test x) _ (each.0 (λ t r. h t (or_left (reads t x) _ r)))
      (row_good rest each.1 (λ t r. h t (or_right (reads t x) _ r)))

  -- a statement without others inside
  alone : (k : TacStmt-F TacStmt) → list_all all_true (parts (map-TacStmt _ _ test k)) ≡ true →
      (((x : ℕ) → reads_here constants source x (map-TacStmt _ _ (reads x) k) ≡ true → used x ≡ true) →
      reads_used constants source used (map-TacStmt _ _ test k) ≡ true) →
      ((x : ℕ) → reads_within constants source x (map-TacStmt _ _ (reads x) k) ≡ true → used x ≡ true) →
      with_parts (reads_used constants source used) (map-TacStmt _ _ test k) ≡ true
  alone k none own h = and_from (reads_used constants source used (map-TacStmt _ _ test k)) _
      (own (λ x r. h x (or_left (reads_here constants source x (map-TacStmt _ _ (reads x) k)) _ r))) none

  layer_good : (k : TacStmt-F TacStmt) → Inside Good k →
      ((x : ℕ) → reads_within constants source x (map-TacStmt _ _ (reads x) k) ≡ true → used x ≡ true) →
      with_parts (reads_used constants source used) (map-TacStmt _ _ test k) ≡ true
  layer_good (tac.Const dest value) i h = refl
  layer_good (tac.Copy dest from) i h = alone (tac.Copy dest from) refl (copy_is (source dest == source from)
      (source from)) h
  layer_good (tac.Op dest o left right) i h = alone (tac.Op dest o left right) refl
      (unless_are (folded constants o left right) (left ∷ one_or_none right)) h
  layer_good (tac.ObjectPlace dest object) i h = refl
  layer_good (tac.GlobalPlace dest global) i h = refl
  layer_good (tac.Load dest place pointer) i h = alone (tac.Load dest place pointer) refl (all_are (place ∷ [])) h
  layer_good (tac.Store place value) i h = alone (tac.Store place value) refl (all_are (place ∷ value ∷ [])) h
  layer_good (tac.If cond a b) i h = and_from (all_used source used (cond ∷ [])) _
      (all_are (cond ∷ []) (λ x r. h x (or_left (reads_some source x (cond ∷ [])) _ r)))
      (and_from (all_true (map test a)) _
      (row_good a i.0 (λ x r. h x (or_right (reads_some source x (cond ∷ [])) _
      (or_left (some_hold (map (reads x) a)) _ r))))
      (and_from (all_true (map test b)) true (row_good b i.1 (λ x r. h x (or_right (reads_some source x (cond ∷ [])) _
      (or_right (some_hold (map (reads x) a)) _ (or_left (some_hold (map (reads x) b)) false r))))) refl))
  layer_good (tac.Loop a b c) i h =
      and_from (all_true (map test a)) _
      (row_good a i.0 (λ x r. h x (or_left (some_hold (map (reads x) a)) _ r)))
      (and_from (all_true (map test b)) _
      (row_good b i.1 (λ x r. h x (or_right (some_hold (map (reads x) a)) _
      (or_left (some_hold (map (reads x) b)) _ r))))
      (and_from (all_true (map test c)) true
      (row_good c i.2 (λ x r. h x (or_right (some_hold (map (reads x) a)) _
      (or_right (some_hold (map (reads x) b)) _ (or_left (some_hold (map (reads x) c)) false r))))) refl))
  layer_good tac.Break i h = refl
  layer_good tac.Continue i h = refl
  layer_good (tac.CallOwn dest function args) i h =
      alone (tac.CallOwn dest function args) refl (all_are args) h
  layer_good (tac.CallCross dest comp index args) i h =
      alone (tac.CallCross dest comp index args) refl (all_are args) h
  layer_good (tac.Input dest) i h = refl
  layer_good (tac.Output value) i h = alone (tac.Output value) refl (all_are (value ∷ [])) h
  layer_good (tac.Alloc dest count words) i h = alone (tac.Alloc dest count words) refl (all_are (count ∷ [])) h
  layer_good (tac.Free pointer) i h = alone (tac.Free pointer) refl (all_are (pointer ∷ [])) h
  layer_good (tac.Return value) i h = alone (tac.Return value) refl (all_are (one_or_none value)) h

  stmt_good : (stmt : TacStmt) → Good stmt
  stmt_good = stmt_induction Good (λ k i h. fold-roll-TacStmt Bool (with_parts (reads_used constants source used)) k
      ∙ layer_good k i (λ x r. h x (fold-roll-TacStmt Bool (reads_within constants source x) k ∙ r)))

  pub all_uses : (stmts : List TacStmt) → ((x : ℕ) → is_read constants source stmts x ≡ true → used x ≡ true) →
      all_true (map test stmts) ≡ true
  all_uses stmts h = row_good stmts (everywhere_in Good stmt_good stmts) h
