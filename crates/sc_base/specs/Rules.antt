-- Rules that hold together.
use Rattle.std.specs.Prelude.{Bool, true, ◌&&◌, List, [], ◌∷◌}

-- each of the rules holds
abbrev pub all_hold : List Bool → Bool
all_hold [] = true
all_hold (rule ∷ []) = rule
all_hold (rule ∷ next ∷ rules) = rule && all_hold (next ∷ rules)
