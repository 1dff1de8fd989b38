-- Assignments of which there are plans.
use Rattle.sc_run.proofs.Common.{Frame, List, Option, Some, TypedExpr, TypedStmt, [], ap}
use Rattle.sc_run.proofs.Common.{roll-TypedStmtKind, slice_get, subst, suc, sym, way_in, zero, ℕ, ◌∙◌, ◌∷◌, ◌≡◌}
use Rattle.sc_run.proofs.Common.{get_or, length, refl, ◌<◌}
use Rattle.std.specs.Prelude.{IfSome}
use Rattle.std.proofs.lemmas.Option.{slice_get_read}
use Rattle.sc_run_value.specs.declared.plans.Assignment.{Assignment}
use Rattle.sc_core.specs.declared.stmt.TypedStmtKind.TheOpen as layer
use Rattle.sc_run_value.specs.Plans.{IsPlanOf, IsTargetOf}
use Rattle.sc_run.specs.Assignments.{AreStmts, IsStmt}

module _ (f : Frame) (stmts : List TypedStmt) where
  -- where the assignment is there, it is the statement at a number
  abbrev At : ℕ → Option Assignment → Type 0
  At at slot = (stmt : TypedStmt) → slice_get stmts at ≡ Some stmt → IfSome slot (IsStmt f stmt)

  moved : {a slot : Option Assignment} (stmt : TypedStmt) → Some a ≡ Some slot → IfSome a (IsStmt f stmt) →
      IfSome slot (IsStmt f stmt)
  moved {a} {slot} stmt is h = let p : a ≡ slot = cc is in subst (λ x. IfSome x (IsStmt f stmt)) p h

  pub four : (a b c d : Option Assignment) → At 0 a → At 1 b → At 2 c → At 3 d →
      AreStmts f stmts (a ∷ b ∷ c ∷ d ∷ [])
  four a b c d h i j k zero stmt slot there is = moved stmt is (h stmt there)
  four a b c d h i j k (suc zero) stmt slot there is = moved stmt is (i stmt there)
  four a b c d h i j k (suc (suc zero)) stmt slot there is = moved stmt is (j stmt there)
  four a b c d h i j k (suc (suc (suc zero))) stmt slot there is = moved stmt is (k stmt there)
  four a b c d h i j k (suc (suc (suc (suc n)))) stmt slot there is = absurd (cc is)

pub same_there : {A : Type 0} (xs : List A) (at : ℕ) (x y : A) → at < length xs → x ≡ get_or xs at x →
    slice_get xs at ≡ Some y → x ≡ y
same_there xs at x y less is there = let p : Some x ≡ Some y = sym (slice_get_read xs _ at x refl less is) ∙ there in
    cc p

-- a statement of which there is a plan
pub stmt_planned : (f : Frame) (stmt : TypedStmt) (a : Assignment) (place value : TypedExpr) →
    stmt.kind ≡ roll-TypedStmtKind (layer.Assign place value) → a.place.now ≡ place → a.value.now ≡ value →
    IsTargetOf a.target (way_in f place) → IsPlanOf a.plan (way_in f value) → IsStmt f stmt a
stmt_planned f stmt a place value is p v b q = record {
  is = is ∙ ap (λ e. roll-TypedStmtKind (layer.Assign e value)) (sym p) ∙
      ap (λ e. roll-TypedStmtKind (layer.Assign a.place.now e)) (sym v);
  found = record {
    target = subst (λ e. IsTargetOf a.target (way_in f e)) (sym p) b;
    plan = subst (λ e. IsPlanOf a.plan (way_in f e)) (sym v) q;
  };
}

-- the statement at a number, and what of it there is a plan
pub planned_at : (f : Frame) (stmts : List TypedStmt) (planned : List (Option Assignment)) (at : ℕ) (stmt : TypedStmt)
    (slot : Option Assignment) → AreStmts f stmts planned → at < length stmts → at < length planned →
    stmt ≡ get_or stmts at stmt → slot ≡ get_or planned at slot → IfSome slot (IsStmt f stmt)
planned_at f stmts planned at stmt slot h less there is so =
    h at stmt slot (slice_get_read stmts _ at stmt refl less is) (slice_get_read planned _ at slot refl there so)
