-- Where things lie in memory. A compartment has a stretch of addresses for its code and one for its data, both found by
-- its number.
use Rattle.sc_image.specs.Common.{Region, is_in}
use Rattle.std.specs.Prelude.{ℕ, zero, suc, ◌+◌, ◌-◌, ◌*◌, ◌/◌, ◌%◌, Bool, true, false, ◌&&◌, nat_le, nat_eq, List, []}
use Rattle.std.specs.Prelude.{◌∷◌, length, map, slice_get, Option, None, if◌then◌else◌}
use Rattle.std.specs.List.{list_any}
use Rattle.std.specs.Option.{option_map_or}
use Rattle.sc_zone.specs.Prelude.{zone_words}
use Rattle.sc_image.specs.declared.parts.ImageParts.{ImageParts}

-- from one compartment's stretch to the next, and so the most bytes of code
abbrev pub stretch : ℕ
stretch = 0x100000

-- where the code of compartment c begins
abbrev pub code_start : ℕ → ℕ
code_start c = 0x01000000 + c * stretch

-- where its data begin: the stack, which grows down from its top, then the globals, and higher up the zone of its heap
abbrev pub data_start : ℕ → ℕ
data_start c = 0x10000000 + c * stretch

abbrev pub stack_size : ℕ
stack_size = 65536

-- the top of the stack, where the globals begin
abbrev pub stack_top : ℕ → ℕ
stack_top c = data_start c + stack_size

-- the most bytes of globals: as many as there are up to the zone
abbrev pub most_globals : ℕ
most_globals = 458752

-- where the zone of compartment c begins, if it has one, and how many bytes it has
abbrev pub zone_start : ℕ → ℕ
zone_start c = data_start c + 0x80000

abbrev pub zone_size : ℕ
zone_size = 4 * zone_words

-- where the addresses end that may be data of compartment c: 262,144 more that are nobody's lie below the next one's
abbrev pub data_end : ℕ → ℕ
data_end c = zone_start c + zone_size

-- the address that a function returns to where it was called from outside: nobody's
abbrev pub gate : ℕ
gate = 0x00000100

-- the number of the compartment in whose stretch of code an address lies, and of that in whose stretch of data it lies
abbrev pub comp_of_code : ℕ → ℕ
comp_of_code address = (address - code_start 0) / stretch

abbrev pub comp_of_data : ℕ → ℕ
comp_of_data address = (address - data_start 0) / stretch

-- the code and the globals of compartment c: none where the image has no such compartment
abbrev pub code_in : ImageParts → ℕ → List ℕ
code_in image c = option_map_or (λ comp. comp.code) (slice_get image.comps c) []

abbrev pub initial_globals : ImageParts → ℕ → List ℕ
initial_globals image c = option_map_or (λ comp. comp.globals) (slice_get image.comps c) []

-- whether compartment c has a heap, and so a zone
abbrev pub has_heap : ImageParts → ℕ → Bool
has_heap image c = option_map_or (λ comp. comp.heap) (slice_get image.comps c) false

-- the word of c's code at an address, if the address is that of a whole word of it
unfoldable pub word_at : ImageParts → (c address : ℕ) → Option ℕ
word_at image c address =
    if nat_eq (address % 4) 0 && nat_le (code_start c) address then
    slice_get (code_in image c) ((address - code_start c) / 4) else None

-- a region of data, and what it holds at the start: these bytes, and then zeros
pub record Filled : Type 0 where
  pub region : Region
  pub bytes : List ℕ

-- the data of compartment c with these globals: its stack and its zone, if it has one, which hold zeros, and its
-- globals
abbrev pub data_with : (c : ℕ) → (globals : List ℕ) → (heap : Bool) → List Filled
data_with c globals heap =
    record { region = record { start = data_start c; bytes = stack_size }; bytes = [] } ∷
    record { region = record { start = stack_top c; bytes = length globals }; bytes = globals } ∷
    (if heap then record { region = record { start = zone_start c; bytes = zone_size }; bytes = [] } ∷ [] else [])

-- the regions of c's data
abbrev pub data_regions : ImageParts → ℕ → List Region
data_regions image c = map (λ filled. filled.region) (data_with c (initial_globals image c) (has_heap image c))

-- the `size` bytes from an address on all lie in c's data
unfoldable pub are_data : ImageParts → (c address size : ℕ) → Bool
are_data image c address zero = true
are_data image c address (suc size) =
    are_data image c address size && list_any (λ region. is_in region (address + size)) (data_regions image c)
