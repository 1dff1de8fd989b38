-- How a flat store keeps its bytes: those of each region in a list of their own.
use Rattle.std.specs.Prelude.{◌≡◌, ℕ, ◌+◌, ◌-◌, Bool, ◌&&◌, nat_le, nat_lt, if◌then◌else◌, List, [], ◌∷◌, map, length}
use Rattle.std.specs.Prelude.{slice_index, EachIndex, None, Some}
use Rattle.std.specs.Option.{option_or}
use Rattle.sc_store.specs.declared.region.Region.{Region}
use Rattle.sc_store.specs.declared.part.Part.{Part}
use Rattle.sc_store.specs.Memory.{ByteMemory}

-- the region whose bytes a part keeps
abbrev pub region_of : Part → Region
region_of p = record { start = p.start; bytes = length p.bytes.items }

abbrev pub regions_of : List Part → List Region
regions_of ps = map region_of ps

-- the memory with these bytes from `a` on
abbrev pub written : ByteMemory → ℕ → List ℕ → ByteMemory
written m a bs b = if nat_le a b && nat_lt b (a + length bs) then Some (slice_index bs (b - a)) else m b

-- the bytes of one part, and of all
abbrev pub piece_of : Part → ByteMemory
piece_of p = written (λ _. None) p.start p.bytes.items

abbrev pub bytes_of : List Part → ByteMemory
bytes_of [] a = None
bytes_of (p ∷ ps) a = option_or (piece_of p a) (bytes_of ps a)

-- the part has the `size` addresses from `a` on
abbrev pub spans : ℕ → ℕ → Part → Bool
spans a size p = nat_le p.start a && nat_le (a + size) (p.start + length p.bytes.items)

-- each byte of the part is 0
abbrev pub IsZero : Part → Type 0
IsZero p = (k : ℕ) → slice_index p.bytes.items k ≡ 0

-- these bytes stand in memory from `a` on
abbrev pub Reads : ByteMemory → ℕ → List ℕ → Type 0
Reads m a bs = EachIndex bs (λ k. m (a + k) ≡ Some (slice_index bs k))
