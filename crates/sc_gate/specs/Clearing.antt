-- Helping: registers that are cleared one after the other.
use Rattle.sc_image.specs.Prelude.{kept}
use Rattle.std.specs.Prelude.{Bool, List, drop, false, take, ℕ, ◌++◌, ◌<◌, ◌≡◌, ◌≤◌}

-- the first n registers are cleared where they aren't kept, and the others not yet
abbrev pub cleared_first : (keeps : ℕ → Bool) → (n : ℕ) → List ℕ → List ℕ
cleared_first keeps n regs = kept keeps (take n regs) ++ drop n regs

-- none of the registers from one number on, up to another, is kept
abbrev pub KeepsNone : (keeps : ℕ → Bool) → (from to : ℕ) → Type 0
KeepsNone keeps from to = (n : ℕ) → from ≤ n → n < to → keeps n ≡ false
