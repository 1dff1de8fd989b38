-- Where the bytes of the regions of a paged store are.
use Rattle.std.specs.Prelude.{◌≡◌, ℕ, ◌+◌, ◌-◌, ◌*◌, ◌<◌, Bool, true, ◌&&◌, nat_le, if◌then◌else◌, List, [], ◌∷◌, map}
use Rattle.std.specs.Prelude.{find, Option, Some, None}
use Rattle.std.specs.Option.{option_map}
use Rattle.sc_store.specs.declared.region.Region.{Region}
use Rattle.sc_store.specs.declared.area.Area.{Area}
use Rattle.sc_store.specs.Memory.{ByteMemory}
use Rattle.sc_store.specs.Region.{is_in}

-- the region has the `size` addresses from `a` on
abbrev pub reaches : ℕ → ℕ → Area → Bool
reaches a size r = nat_le r.region.start a && nat_le (a + size) (r.region.start + r.region.bytes)

-- the regions of the areas
abbrev pub regions_in : List Area → List Region
regions_in rs = map (λ r. r.region) rs

-- where an area has an address
abbrev pub place_in : ℕ → Area → ℕ
place_in a r = r.first + (a - r.region.start)

-- the place of an address
abbrev pub place_of : List Area → ℕ → Option ℕ
place_of [] a = None
place_of (r ∷ rs) a = if is_in r.region a then Some (place_in a r) else place_of rs a

-- the place of `a`, where an area has all the `size` addresses from it on
abbrev pub place_found : List Area → ℕ → ℕ → Option ℕ
place_found rs a size = option_map (place_in a) (find (reaches a size) rs)

-- every access that this area reaches is found in it
abbrev pub IsFocus : Area → List Area → Type 0
IsFocus focus rs = (a size : ℕ) → 0 < size → reaches a size focus ≡ true →
    place_found rs a size ≡ Some (place_in a focus)

-- no two addresses have one place
abbrev pub AreSingle : List Area → Type 0
AreSingle rs = (a b i : ℕ) → place_of rs a ≡ Some i → place_of rs b ≡ Some i → a ≡ b

-- every place is on one of `pages` pages
abbrev pub ArePlaced : List Area → ℕ → Type 0
ArePlaced rs pages = (a i : ℕ) → place_of rs a ≡ Some i → i < pages * 4096

-- the memory of the addresses, by the bytes at the places
abbrev pub memory_of : List Area → (ℕ → ℕ) → ByteMemory
memory_of rs cells a = option_map cells (place_of rs a)
