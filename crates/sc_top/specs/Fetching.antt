-- Helping: what was fetched before it is known whether it is all.
use Rattle.sc_top.specs.Common.{IsAtEnd, Takes}
use Rattle.std.specs.Prelude.{◌≤◌, ◌+◌, ℕ, List, length, Option}

-- these bytes were fetched, one more than the limit at most, and they are all there are unless more than the limit came
pub record Fetches (limit : ℕ) (left left_after : Option (List ℕ)) (bytes : List ℕ) : Type 0 where
  pub taken : Takes left left_after bytes
  pub few : length bytes ≤ limit + 1
  pub ended : length bytes ≤ limit → IsAtEnd left_after
