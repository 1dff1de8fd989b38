-- What a read takes, what a write adds, and when a count of faults has risen.
use Rattle.std.specs.Prelude.{◌≡◌, ◌<◌, ◌⊎◌, ℕ, List, [], ◌++◌, Option, None, Some}

-- a count rose: it is greater than before, or it stands at the end of a u64
abbrev pub Rose : ℕ → ℕ → Type 0
Rose before after = (before < after) ⊎ (after ≡ 18446744073709551615)

-- these bytes were the first of what was left, where that is stated
abbrev pub Takes : Option (List ℕ) → Option (List ℕ) → List ℕ → Type 0
Takes None after bytes = Unit {0}
Takes (Some before) None bytes = ⊥
Takes (Some before) (Some after) bytes = before ≡ bytes ++ after

-- these bytes were added to what was written, where that is stated
abbrev pub Adds : Option (List ℕ) → Option (List ℕ) → List ℕ → Type 0
Adds None after bytes = Unit {0}
Adds (Some before) None bytes = ⊥
Adds (Some before) (Some after) bytes = after ≡ before ++ bytes

-- nothing is left, where that is stated
abbrev pub IsAtEnd : Option (List ℕ) → Type 0
IsAtEnd None = Unit {0}
IsAtEnd (Some left) = left ≡ []
