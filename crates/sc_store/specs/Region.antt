-- Which addresses a region has.
use Rattle.std.specs.Prelude.{ℕ, ◌+◌, ◌<◌, ◌≤◌, ◌^◌, Bool, ◌&&◌, nat_le, nat_lt, List, All, AllPairs}
use Rattle.sc_store.specs.declared.region.Region.{Region}

-- the address is one of the region's, as a fact and as a test
abbrev pub IsIn : Region → ℕ → Type 0
IsIn r a = (r.start ≤ a) × (a < r.start + r.bytes)

abbrev pub is_in : Region → ℕ → Bool
is_in r a = nat_le r.start a && nat_lt a (r.start + r.bytes)

-- no address is in two of the regions
abbrev pub AreApart : List Region → Type 0
AreApart rs = AllPairs (λ r q. (a : ℕ) → IsIn r a → IsIn q a → ⊥) rs

-- every address of the regions has 32 bits
abbrev pub AreBelow : List Region → Type 0
AreBelow rs = All (λ r. r.start + r.bytes ≤ 2 ^ 32) rs
