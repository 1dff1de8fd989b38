-- Memory as a map from addresses to bytes, and the words in it, least significant byte first.
use Rattle.std.specs.Prelude.{◌≡◌, ℕ, ◌+◌, ◌-◌, ◌*◌, ◌/◌, ◌%◌, ◌^◌, ◌<◌, ◌&&◌, nat_le, nat_lt, if◌then◌else◌, zero, suc}
use Rattle.std.specs.Prelude.{List, [], ◌∷◌, Option, None, Some, IsSome, unwrap_or}
use Rattle.sc_store.specs.declared.region.Region.{Region}
use Rattle.sc_store.specs.Region.{is_in}

-- the byte at each address that has one
abbrev pub ByteMemory : Type 0
ByteMemory = ℕ → Option ℕ

-- what stands at an address is a byte, and the address has 32 bits
abbrev pub HoldsBytes : ByteMemory → Type 0
HoldsBytes m = (a b : ℕ) → m a ≡ Some b → (a < 2 ^ 32) × (b < 256)

-- there is a byte at each of these addresses, from `a` on
abbrev pub HasBytes : ByteMemory → ℕ → ℕ → Type 0
HasBytes m a size = (k : ℕ) → k < size → IsSome (m (a + k))

-- a zero at each address of the regions, and nothing elsewhere
abbrev pub zeros : List Region → ByteMemory
zeros [] a = None
zeros (r ∷ rs) a = if is_in r a then Some 0 else zeros rs a

-- the number that n bytes from `a` on make, the first worth 1, the next 256, and so on
abbrev pub load_of : ByteMemory → ℕ → ℕ → ℕ
load_of m a zero = 0
load_of m a (suc k) = load_of m a k + unwrap_or (m (a + k)) 0 * 256 ^ k

-- the byte of a number that is worth 256 to the power of `k`
abbrev pub byte_of : ℕ → ℕ → ℕ
byte_of value k = value / 256 ^ k % 256

-- the memory with the bytes of a number, the first worth 1, at the `size` addresses from `a` on
abbrev pub with_bytes : ByteMemory → ℕ → ℕ → ℕ → ByteMemory
with_bytes m a size value b = if nat_le a b && nat_lt b (a + size) then Some (byte_of value (b - a)) else m b
