-- Helping: plans of the assignments of a loop.
use Rattle.sc_run.specs.Common.{Frame, Loop, TypedStmt}
use Rattle.std.specs.Prelude.{◌≡◌, ℕ, List, Option, Some, IfSome, slice_get}
use Rattle.sc_core.specs.declared.stmt.TypedSimple.{TypedSimple}
use Rattle.sc_core.specs.declared.stmt.TypedSimpleKind.TheVariants as simple
use Rattle.sc_core.specs.declared.stmt.TypedStmtKind.{roll-TypedStmtKind}
use Rattle.sc_core.specs.declared.stmt.TypedStmtKind.TheOpen as layer
use Rattle.sc_run_value.specs.Plans.{IsPlanOf, IsTargetOf}
use Rattle.sc_run_value.specs.declared.plans.Assignment.{Assignment}
use Rattle.sc_run.specs.Resume.{way_in}
use denote.Bor.{Bor}

module _ (f : Frame) where
  -- its place and its value are found as the assignment says
  pub record IsFound (a : Assignment) : Type 0 where
    pub target : IsTargetOf a.target (way_in f a.place.now)
    pub plan : IsPlanOf a.plan (way_in f a.value.now)

  -- the statement is this assignment
  pub record IsStmt (stmt : TypedStmt) (a : Assignment) : Type 0 where
    pub is : stmt.kind ≡ roll-TypedStmtKind (layer.Assign a.place.now a.value.now)
    pub found : IsFound a

  -- the part of a `for` is this assignment
  pub record IsPart (part : TypedSimple) (a : Assignment) : Type 0 where
    pub is : part.kind ≡ simple.Assign a.place.now a.value.now
    pub found : IsFound a

  -- where there is an assignment at a number, it is the statement there
  abbrev pub AreStmts : List TypedStmt → List (Option Assignment) → Type 0
  AreStmts stmts planned = (at : ℕ) (stmt : TypedStmt) (slot : Option Assignment) →
      slice_get stmts at ≡ Some stmt → slice_get planned at ≡ Some slot → IfSome slot (IsStmt stmt)

  -- the same of what comes before the next round of a loop
  abbrev pub IsNext : Loop → Option Assignment → Type 0
  IsNext whole planned =
      (part : Bor TypedSimple) → whole.next ≡ Some part → IfSome planned (IsPart part.now)
