-- Sets of compartments, given as lists of their numbers.
use Rattle.std.specs.Prelude.{ℕ, ◌==◌, Bool, List}
use Rattle.std.specs.List.{list_any}

-- the compartments of a list
abbrev pub is_listed : List ℕ → (comp : ℕ) → Bool
is_listed comps comp = list_any (λ one. one == comp) comps
