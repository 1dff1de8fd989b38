-- Code by shapes, on which every fold computes.
use Rattle.sc_tac.proofs.Common.{List, TacStmt, TacStmt-F, [], ap, fold-TacStmt, fold-roll-TacStmt, map, map-TacStmt}
use Rattle.sc_tac.proofs.Common.{refl, roll-TacStmt, ℕ, ◌∙◌, ◌∷◌, ◌≡◌}
use Rattle.sc_tac.specs.declared.stmt.TacStmt.TheOpen as tac

-- statements in order: each holds those that follow
pub data Shape : Type 0 where
  Done : Shape
  Line : TacStmt-F ⊥ → Shape → Shape
  Fork : ℕ → Shape → Shape → Shape → Shape
  Cycle : Shape → Shape → Shape → Shape → Shape

-- a layer that has no parts, over statements of any kind
abbrev pub leaf : {R : Type 0} → TacStmt-F ⊥ → TacStmt-F R
leaf layer = map-TacStmt _ _ (λ none. absurd none) layer

abbrev pub stmts : Shape → List TacStmt
stmts Done = []
stmts (Line layer rest) = roll-TacStmt (leaf layer) ∷ stmts rest
stmts (Fork cond a b rest) = roll-TacStmt (tac.If cond (stmts a) (stmts b)) ∷ stmts rest
stmts (Cycle head body next rest) = roll-TacStmt (tac.Loop (stmts head) (stmts body) (stmts next)) ∷ stmts rest

module _ (R : Type 0) (step : TacStmt-F R → R) where
  abbrev pub rows : Shape → List R
  rows Done = []
  rows (Line layer rest) = step (leaf layer) ∷ rows rest
  rows (Fork cond a b rest) = step (tac.If cond (rows a) (rows b)) ∷ rows rest
  rows (Cycle head body next rest) = step (tac.Loop (rows head) (rows body) (rows next)) ∷ rows rest

  no_elements : (xs : List ⊥) → map (fold-TacStmt R step) (map (λ none. absurd none) xs) ≡
      map {B = R} (λ none. absurd none) xs
  no_elements [] = refl
  no_elements (none ∷ xs) = absurd none

  folded_leaf : (layer : TacStmt-F ⊥) → map-TacStmt _ _ (fold-TacStmt R step) (leaf layer) ≡ leaf layer
  folded_leaf (tac.Const dest value) = refl
  folded_leaf (tac.Copy dest from) = refl
  folded_leaf (tac.Op dest op left right) = refl
  folded_leaf (tac.ObjectPlace dest object) = refl
  folded_leaf (tac.GlobalPlace dest global) = refl
  folded_leaf (tac.Load dest place pointer) = refl
  folded_leaf (tac.Store place value) = refl
  folded_leaf (tac.If cond a b) = λ i. tac.If cond (no_elements a i) (no_elements b i)
  folded_leaf (tac.Loop head body next) = λ i. tac.Loop (no_elements head i) (no_elements body i) (no_elements next i)
  folded_leaf tac.Break = refl
  folded_leaf tac.Continue = refl
  folded_leaf (tac.CallOwn dest function args) = refl
  folded_leaf (tac.CallCross dest comp index args) = refl
  folded_leaf (tac.Input dest) = refl
  folded_leaf (tac.Output value) = refl
  folded_leaf (tac.Alloc dest count words) = refl
  folded_leaf (tac.Free pointer) = refl
  folded_leaf (tac.Return value) = refl

  -- a fold of each statement is its recursion on the shape
  pub rows_are : (x : Shape) → map (fold-TacStmt R step) (stmts x) ≡ rows x
  rows_are Done = refl
  rows_are (Line layer rest) = λ i.
      (fold-roll-TacStmt R step (leaf layer) ∙ ap step (folded_leaf layer)) i ∷ rows_are rest i
  rows_are (Fork cond a b rest) = λ i.
      (fold-roll-TacStmt R step (tac.If cond (stmts a) (stmts b)) ∙
      (λ j. step (tac.If cond (rows_are a j) (rows_are b j)))) i ∷ rows_are rest i
  rows_are (Cycle head body next rest) = λ i.
      (fold-roll-TacStmt R step (tac.Loop (stmts head) (stmts body) (stmts next)) ∙
      (λ j. step (tac.Loop (rows_are head j) (rows_are body j) (rows_are next j)))) i ∷ rows_are rest i
