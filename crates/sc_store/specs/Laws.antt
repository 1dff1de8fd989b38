-- What loads and stores have to do with one another.
use Rattle.std.specs.Prelude.{◌≡◌, ℕ, ◌+◌, ◌%◌, ◌^◌, ◌≤◌, ◌⊎◌, ◌↔◌, IsSome}
use Rattle.sc_store.specs.Memory.{ByteMemory, HasBytes, load_of, with_bytes}

-- a load of what was stored gives the number, cut to `size` bytes
abbrev pub GivesStored : Type 0
GivesStored = (m : ByteMemory) (a size value : ℕ) → load_of (with_bytes m a size value) a size ≡ value % 256 ^ size

-- a load apart from a store gives what it gave before
abbrev pub KeepsApart : Type 0
KeepsApart =
    (m : ByteMemory) (a size value b n : ℕ) → (b + n ≤ a) ⊎ (a + size ≤ b) →
    load_of (with_bytes m a size value) b n ≡ load_of m b n

-- a store where memory is leaves it with the same addresses
abbrev pub KeepsAddresses : Type 0
KeepsAddresses =
    (m : ByteMemory) (a size value b : ℕ) → HasBytes m a size → IsSome (with_bytes m a size value b) ↔ IsSome (m b)
