-- Names with a value each: the one with which the name came first.
use Rattle.std.specs.Prelude.{ℕ, ◌==◌, List, [], ◌∷◌, ◌++◌, Option, is_some, if◌then◌else◌}
use Rattle.std.specs.Map.{lookup}
use Rattle.std.specs.Cmp.Lexicographic.{pointwise}

-- the value of a name, if it came
abbrev pub first_by_name : {V : Type 0} → List (List ℕ × V) → List ℕ → Option V
first_by_name firsts name = lookup (pointwise ◌==◌ name) firsts

-- the names and values after this one came too
abbrev pub with_first : {V : Type 0} → List (List ℕ × V) → List ℕ → V → List (List ℕ × V)
with_first firsts name value = if is_some (first_by_name firsts name) then firsts else firsts ++ (name, value) ∷ []
