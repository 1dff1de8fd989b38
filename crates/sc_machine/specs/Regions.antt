-- Helping: the memory of a start, as the machine makes it: zeros in each region of data, and then the bytes that some
-- begin with.
use Rattle.sc_machine.specs.Common.{Filled, ByteMemory, data_start, data_with, most_globals, stack_size}
use Rattle.sc_image.specs.Prelude.{zone_size, zone_start}
use Rattle.sc_store.specs.Prelude.{written}
use Rattle.std.specs.Prelude.{Bool, if◌then◌else◌, ℕ, suc, ◌+◌, ◌≤◌, List, [], ◌∷◌, ◌++◌, length, map}
use Rattle.sc_store.specs.declared.region.Region.{Region}
use Rattle.sc_image.specs.declared.parts.CompPart.{CompPart}

abbrev pub HasFewGlobals : CompPart → Type 0
HasFewGlobals comp = length comp.globals ≤ most_globals

-- the data of the compartments from number c on
abbrev pub all_data : ℕ → List CompPart → List Filled
all_data c [] = []
all_data c (comp ∷ comps) = data_with c comp.globals comp.heap ++ all_data (suc c) comps

abbrev pub regions_of : List Filled → List Region
regions_of all = map (λ filled. filled.region) all

-- a memory with the bytes that these regions begin with
abbrev pub filled_with : List Filled → ByteMemory → ByteMemory
filled_with [] memory = memory
filled_with (filled ∷ others) memory = filled_with others (written memory filled.region.start filled.bytes)

-- the regions of the store: the stack and the globals of a compartment are one, since the globals follow the stack
abbrev pub zone_regions : (heap : Bool) → (c : ℕ) → List Region
zone_regions heap c = if heap then record { start = zone_start c; bytes = zone_size } ∷ [] else []

abbrev pub own_regions : (c : ℕ) → (globals : List ℕ) → (heap : Bool) → List Region
own_regions c globals heap =
    record { start = data_start c; bytes = stack_size + length globals } ∷ zone_regions heap c

abbrev pub store_regions : ℕ → List CompPart → List Region
store_regions c [] = []
store_regions c (comp ∷ comps) = own_regions c comp.globals comp.heap ++ store_regions (suc c) comps
