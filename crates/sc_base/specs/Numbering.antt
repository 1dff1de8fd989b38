-- Names that are numbered in the order in which they came, each once.
use Rattle.std.specs.Prelude.{ℕ, ◌==◌, Bool, List, [], ◌∷◌, ◌++◌, length, Option, Some, None, position, if◌then◌else◌}
use Rattle.std.specs.List.{list_any, IsDistinct}
use Rattle.std.specs.Cmp.Lexicographic.{pointwise}

-- whether a name is among them
abbrev pub is_numbered : List (List ℕ) → List ℕ → Bool
is_numbered names name = list_any (pointwise ◌==◌ name) names

-- its number, if it has one
abbrev pub number_by_name : List (List ℕ) → List ℕ → Option ℕ
number_by_name names name = position (pointwise ◌==◌ name) names

-- the number that a name gets, if it is new
abbrev pub next_number : List (List ℕ) → List ℕ → Option ℕ
next_number names name = if is_numbered names name then None else Some (length names)

-- the names after this one came
abbrev pub numbered : List (List ℕ) → List ℕ → List (List ℕ)
numbered names name = if is_numbered names name then names else names ++ name ∷ []

-- no name has two numbers
abbrev pub HasOneNumberEach : List (List ℕ) → Type 0
HasOneNumberEach = IsDistinct (pointwise ◌==◌)
