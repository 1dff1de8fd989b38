-- What a call of another compartment keeps, and what the return from it brings back.
use Rattle.sc_image.specs.Common.{Call, Ret}
use Rattle.std.specs.Prelude.{◌≡◌, ◌≢◌, ℕ, zero, suc, ◌+◌, ◌<◌, List, [], ◌∷◌, length, Option}
use Rattle.sc_image.specs.State.{MachineState, reg, saved_sp, sp}
use Rattle.sc_image.specs.Isolation.{Adds, Point, RunsAt, later, observation_at}

-- a call from compartment `from` to compartment `to` leads from one state to the other
pub record HasCalled (from to : ℕ) (before after : MachineState) : Type 0 where
  pub caller : before.active ≡ from
  pub callee : after.active ≡ to
  -- the caller's saved sp is its sp; nobody else's changes
  pub saved : saved_sp after from ≡ reg before sp
  pub others : (d : ℕ) → d ≢ from → saved_sp after d ≡ saved_sp before d
  -- the callee begins with its saved sp
  pub begins : reg after sp ≡ saved_sp before to
  pub opened : length after.cross ≡ suc (length before.cross)

-- for `steps` steps from a point on, and after them, more than `depth` calls are open
abbrev pub StaysAbove : (depth steps : ℕ) → Point → Type 0
StaysAbove depth zero point = depth < length point.state.cross
StaysAbove depth (suc steps) point = (depth < length point.state.cross) × StaysAbove depth steps (later 1 point)

-- the state after the return of a call from compartment `from` that was made in the state before
pub record ComesBack (from : ℕ) (before after : MachineState) : Type 0 where
  -- the caller goes on at its next instruction, with its sp
  pub active : after.active ≡ from
  pub pc : after.pc ≡ before.pc + 4
  pub stack : reg after sp ≡ reg before sp
  -- its saved sp is this one, and everybody else has the saved sp of before the call
  pub saved : saved_sp after from ≡ reg before sp
  pub others : (d : ℕ) → d ≢ from → saved_sp after d ≡ saved_sp before d
  -- the calls are open that were before
  pub cross : after.cross ≡ before.cross

-- A call keeps the caller's sp. The step that closes it, however long the callee ran and whatever it called in between,
-- is a return of the callee, and the caller goes on after its call.
pub record CallsComeBack : Type 0 where
  pub call : (point : Point) (from to index : ℕ) (args : List ℕ) → RunsAt point.state.active point →
      observation_at point ≡ Adds (Call from to index args ∷ []) → HasCalled from to point.state (later 1 point).state
  pub return : (point : Point) (from to index : ℕ) (args : List ℕ) (steps : ℕ) → RunsAt point.state.active point →
      observation_at point ≡ Adds (Call from to index args ∷ []) →
      StaysAbove (length point.state.cross) steps (later 1 point) →
      let last = later (suc steps) point in
      length (later 1 last).state.cross ≡ length point.state.cross →
      ((value : Option ℕ) × (observation_at last ≡ Adds (Ret to from value ∷ []))) ×
      ComesBack from point.state (later 1 last).state
