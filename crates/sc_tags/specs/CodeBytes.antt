-- Helping: the bytes of code, as the machine makes them: zeros in the region of each compartment's code, and then its
-- words.
use Rattle.sc_tags.specs.Common.{ByteMemory, byte_of}
use Rattle.sc_image.specs.Prelude.{code_start, stretch}
use Rattle.sc_image.specs.declared.parts.CompPart.{CompPart}
use Rattle.sc_store.specs.declared.region.Region.{Region}
use Rattle.std.specs.Prelude.{List, Some, [], if◌then◌else◌, length, nat_le, nat_lt}
use Rattle.std.specs.Prelude.{slice_index, suc, ℕ, ◌%◌, ◌&&◌, ◌*◌}
use Rattle.std.specs.Prelude.{◌+◌, ◌-◌, ◌/◌, ◌∷◌, ◌≤◌}

-- the region of a compartment's code
abbrev pub code_region : (c : ℕ) → CompPart → Region
code_region c comp = record { start = code_start c; bytes = 4 * length comp.code }

-- the regions of the compartments from number c on
abbrev pub code_regions : (c : ℕ) → List CompPart → List Region
code_regions c [] = []
code_regions c (comp ∷ comps) = code_region c comp ∷ code_regions (suc c) comps

abbrev pub HasShortCode : CompPart → Type 0
HasShortCode comp = 4 * length comp.code ≤ stretch

-- a memory with the first `count` of some words at the addresses from `start` on
abbrev pub with_words : ByteMemory → (start : ℕ) → (words : List ℕ) → (count : ℕ) → ByteMemory
with_words memory start words count address =
    if nat_le start address && nat_lt address (start + 4 * count)
    then Some (byte_of (slice_index words ((address - start) / 4)) ((address - start) % 4)) else memory address
