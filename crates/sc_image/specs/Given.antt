-- Images that differ from a program's own image in given compartments only.
use Rattle.sc_event.specs.Prelude.{is_listed}
use Rattle.sc_image.specs.Alike.{is_same_inside, is_same_outside}
use Rattle.sc_image.specs.WellFormed.{IsWellFormed}
use Rattle.std.specs.Prelude.{◌≡◌, ℕ, ◌<◌, Bool, true, false, ◌&&◌, ◌||◌, ◌==◌, not, List, [], length, map, filter}
use Rattle.std.specs.Prelude.{All, AllPairs, slice_get}
use Rattle.std.specs.Cmp.Lexicographic.{pointwise}
use Rattle.std.specs.List.{range_with_len}
use Rattle.std.specs.Option.{option_map_or}
use Rattle.sc_image.specs.declared.parts.CompPart.{CompPart}
use Rattle.sc_image.specs.declared.parts.ImageParts.{ImageParts}

-- What the other compartments see of a compartment: its name, its permissions for input and output, its exports with
-- their entries, and its imports.
abbrev pub seen_of : CompPart → CompPart
seen_of part = record part { heap = false; code = []; globals = [] }

-- The image equals the program's own image except in the compartments of the set `given`. A given compartment may have
-- any code, any globals and a heap or none.
pub record IsButFor (given : ℕ → Bool) (own image : ImageParts) : Type 0 where
  pub formed : IsWellFormed image
  pub main : image.main ≡ own.main
  -- where the main compartment is given, the run may begin anywhere in its code
  pub entry : given own.main ≡ false → image.entry ≡ own.entry
  pub seen : map seen_of image.comps ≡ map seen_of own.comps
  pub kept : (c : ℕ) → given c ≡ false → slice_get image.comps c ≡ slice_get own.comps c

-- The list has the compartments of the least such set, in the order of their numbers.
pub record AreGiven (own image : ImageParts) (given : List ℕ) : Type 0 where
  pub but_for : IsButFor (is_listed given) own image
  pub ordered : AllPairs (λ c later. c < later) given
  pub there : All (λ c. c < length own.comps) given
  -- every set but for which the image equals the own one contains them
  pub least : (set : ℕ → Bool) → IsButFor set own image → (c : ℕ) → is_listed given c ≡ true → set c ≡ true

-- The same, as tests.

-- the main compartment is the same, and the compartments are the same for one another
abbrev pub is_seen_alike : (own image : ImageParts) → Bool
is_seen_alike own image = image.main == own.main && pointwise is_same_outside image.comps own.comps

-- both have a compartment c, with the same inside
abbrev pub is_same_inside_at : (comps others : List CompPart) → (c : ℕ) → Bool
is_same_inside_at comps others c =
    option_map_or (λ comp. option_map_or (is_same_inside comp) (slice_get others c) false) (slice_get comps c) false

-- compartment c has its own inside, and if it is the main one, the run begins at its own entry
abbrev pub is_kept : (own image : ImageParts) → (c : ℕ) → Bool
is_kept own image c =
    is_same_inside_at image.comps own.comps c && (not (c == own.main) || image.entry == own.entry)

-- the numbers of the other compartments
abbrev pub differing : (own image : ImageParts) → List ℕ
differing own image = filter (λ c. not (is_kept own image c)) (range_with_len 0 (length own.comps))
