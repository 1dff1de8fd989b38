-- Helping: what is done at once, or not at all.
use Rattle.sc_run_value.specs.Common.{Blocks, Memory, Value, Ways, is_true, store, with_blocks}
use Rattle.std.specs.Prelude.{◌≡◌, ℕ, Bool, true, false, Ok}
use Rattle.sc_core.specs.declared.value.Want.TheVariants as want

-- the condition holds; where that isn't known, nothing is said
pub record Holding (cond : Ways) (blocks : Blocks) : Type 0 where
  pub given : Value
  pub is : cond want.Value blocks ≡ Ok given
  pub holds : is_true given ≡ true

abbrev pub HoldsIf : Bool → Ways → Blocks → Type 0
HoldsIf true cond blocks = Holding cond blocks
HoldsIf false cond blocks = Unit {0}

-- a value stands at a place, and all else is as before
pub record Stored (comp : ℕ) (at v : Value) (before after : Memory) : Type 0 where
  pub is : store (before comp) at v ≡ Ok (after comp)
  pub others : after ≡ with_blocks comp (after comp) before

abbrev pub StoredIf : Bool → ℕ → Value → Value → Memory → Memory → Type 0
StoredIf true comp at v before after = Stored comp at v before after
StoredIf false comp at v before after = after ≡ before

pub record Put (comp : ℕ) (place : Ways) (v : Value) (before after : Memory) : Type 0 where
  pub at : Value
  pub found : place want.Place (before comp) ≡ Ok at
  pub stored : Stored comp at v before after

abbrev pub PutIf : Bool → ℕ → Ways → Value → Memory → Memory → Type 0
PutIf true comp place v before after = Put comp place v before after
PutIf false comp place v before after = after ≡ before

-- the value of an expression stands at the place of another
pub record Assigned (comp : ℕ) (place value : Ways) (before after : Memory) : Type 0 where
  pub given : Value
  pub is : value want.Value (before comp) ≡ Ok given
  pub put : Put comp place given before after

abbrev pub AssignedIf : Bool → ℕ → Ways → Ways → Memory → Memory → Type 0
AssignedIf true comp place value before after = Assigned comp place value before after
AssignedIf false comp place value before after = after ≡ before
