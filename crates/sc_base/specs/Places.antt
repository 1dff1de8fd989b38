-- Helping: the first places of names in a list, as a map.
use Rattle.std.specs.Prelude.{◌≡◌, ◌==◌, ℕ, List}
use Rattle.std.specs.Cmp.Lexicographic.{pointwise}
use Rattle.indexmap.specs.IndexMap.{IndexMap, get}
use Rattle.sc_base.specs.Numbering.{number_by_name}

-- the map has the names of the list, each with its first place, and no others
pub record HasPlaces (names : List (List ℕ)) {S : Type 0} (places : IndexMap (List ℕ) ℕ S) : Type 0 where
  pub at : (name : List ℕ) → get (pointwise ◌==◌) places name ≡ number_by_name names name
