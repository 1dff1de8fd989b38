-- Where a compartment's data lie, memory at the start, and the bytes that a memory holds.
use Rattle.sc_image.proofs.Common.{Bool, ByteMemory, CompPart, HoldsBytes, ImageParts, IsByte, IsWellFormed, List}
use Rattle.sc_image.proofs.Common.{Misaligned, None, Option, Owner, Some, [], and_parts, ap, ap₂, are_data}
use Rattle.sc_image.proofs.Common.{arith, byte_at, byte_of, cases_lt, comp_of_data, data_end, data_regions, data_start}
use Rattle.sc_image.proofs.Common.{data_with, false, get_or_from_slice_get, has_heap, if◌then◌else◌, initial_globals}
use Rattle.sc_image.proofs.Common.{is_in, le-ltb, leb-true, length, list_any, lt-leb, lt-ltb, ltb-true, map}
use Rattle.sc_image.proofs.Common.{most_globals, nat_le, nat_lt, nat_tests, not, option_and_then, refl, refused}
use Rattle.sc_image.proofs.Common.{slice_get, slice_get-get_or, slice_get_cases, slice_get_within, slice_index}
use Rattle.sc_image.proofs.Common.{stack_size, stack_top, start_memory, stretch, subst, suc, sym, true, with_bytes}
use Rattle.sc_image.proofs.Common.{zero, zone_size, zone_start, ℕ, ⊎_elim, ◌%◌, ◌&&◌, ◌+◌, ◌-◌, ◌<◌, ◌^◌, ◌||◌, ◌∙◌}
use Rattle.sc_image.proofs.Common.{◌∷◌, ◌≡◌, ◌≤◌}
use Rattle.sc_image.specs.Layout.{Filled}

-- whether a byte is the compartment's: in its stack or globals, or in its zone
abbrev pub owns : ImageParts → (c a : ℕ) → Bool
owns image c a = list_any (λ region. is_in region a) (data_regions image c)

owns_by : (c a : ℕ) (globals : List ℕ) (heap : Bool) →
    list_any (λ region. is_in region a) (map (λ filled. filled.region) (data_with c globals heap)) ≡
    (nat_le (data_start c) a && nat_lt a (stack_top c + length globals) ||
    (heap && (nat_le (zone_start c) a && nat_lt a (zone_start c + zone_size))))
owns_by c a globals true = grind (arith, nat_tests)
owns_by c a globals false = grind (arith, nat_tests)

pub owns_is : (image : ImageParts) (c a : ℕ) → owns image c a ≡
    (nat_le (data_start c) a && nat_lt a (stack_top c + length (initial_globals image c)) ||
    (has_heap image c && (nat_le (zone_start c) a && nat_lt a (zone_start c + zone_size))))
owns_is image c a = owns_by c a _ _

pub one_is : (image : ImageParts) (c a : ℕ) → are_data image c a 1 ≡ owns image c a
unfolding are_data
one_is image c a = let here : a + 0 ≡ a = omega arith in ap (owns image c) here

-- an access is the compartment's where each of its bytes is
pub one_of : (image : ImageParts) (c a size k : ℕ) → are_data image c a size ≡ true → k < size →
    are_data image c (a + k) 1 ≡ true
unfolding are_data
one_of image c a zero k all within = absurd (omega (arith, within))
one_of image c a (suc size) k all within =
    let parts = and_parts (are_data image c a size) _ all in
    ⊎_elim (λ below. one_of image c a size k parts.0 below)
    (λ last. (let same : k ≡ size = omega (arith, last, within) in
    one_is image c (a + k) ∙ ap (λ j. owns image c (a + j)) same ∙ parts.1)) (cases_lt k size)

-- Where they lie.

pub few_globals : (image : ImageParts) (c : ℕ) → IsWellFormed image → length (initial_globals image c) ≤ most_globals
few_globals image c formed =
    ⊎_elim (λ found. rw found.2 (formed.comps c found.0 found.2).short_globals) (λ none. rw none.1 (omega arith))
    (slice_get_cases image.comps c).1

byte_range : (low top zone size a : ℕ) (heap : Bool) → low ≤ zone → top ≤ zone + size →
    (nat_le low a && nat_lt a top || (heap && (nat_le zone a && nat_lt a (zone + size)))) ≡ true →
    (low ≤ a) × (a < zone + size)
byte_range low top zone size a heap below within is = (grind (arith, nat_tests), grind (arith, nat_tests))

byte_bounds : (image : ImageParts) (c a : ℕ) → IsWellFormed image → are_data image c a 1 ≡ true →
    (data_start c ≤ a) × (a < data_end c)
byte_bounds image c a formed is =
    byte_range (data_start c) (stack_top c + length (initial_globals image c)) (zone_start c) zone_size a
    (has_heap image c) (omega arith) (omega (arith, few_globals image c formed))
    (sym (owns_is image c a) ∙ sym (one_is image c a) ∙ is)

pub data_bounds : (image : ImageParts) (c a size : ℕ) → IsWellFormed image → 0 < size →
    are_data image c a size ≡ true → (data_start c ≤ a) × (a + size ≤ data_end c)
data_bounds image c a size formed some all =
    let first = byte_bounds image c _ formed (one_of image c a size 0 all some) in
    let last = byte_bounds image c _ formed (one_of image c a size (size - 1) all (omega (arith, some))) in
    (omega (arith, first.0), omega (arith, last.1, some))

-- the first byte of a zone is the compartment's exactly where it has one
zone_by : (low top zone size : ℕ) (heap : Bool) → top ≤ zone → 0 < size →
    (nat_le low zone && nat_lt zone top || (heap && (nat_le zone zone && nat_lt zone (zone + size)))) ≡ heap
zone_by low top zone size heap below some = grind (arith, nat_tests)

pub zone_owned : (image : ImageParts) (c : ℕ) → IsWellFormed image →
    are_data image c (zone_start c) 1 ≡ has_heap image c
zone_owned image c formed = one_is image c (zone_start c) ∙ owns_is image c (zone_start c) ∙
    zone_by (data_start c) _ (zone_start c) zone_size (has_heap image c)
    (omega (arith, few_globals image c formed)) (omega arith)

-- an access that isn't refused is of the compartment's bytes
owned_by : (aligned owned : Bool) → (if not aligned then Some Misaligned else if not owned then Some Owner else None) ≡
    None → owned ≡ true
owned_by true true h = refl
owned_by true false h = cc h
owned_by false owned h = cc h

pub allowed_data : (image : ImageParts) (c size a : ℕ) → refused image c size a ≡ None → are_data image c a size ≡ true
allowed_data image c size a h = owned_by _ _ h

-- The memory of the start, by the offset of an address in its stretch of data.

-- where a zone begins in the stretch
abbrev pub zone_offset : ℕ
zone_offset = 0x80000

abbrev pub zone_byte : (heap : Bool) → ℕ → Option ℕ
zone_byte heap offset =
    if heap && (nat_le zone_offset offset && nat_lt offset (zone_offset + zone_size)) then Some 0 else None

-- the byte of a compartment's data at an offset: a stack of zeros, the globals, and higher up a zone of zeros
abbrev pub byte_above : ℕ → CompPart → Option ℕ
byte_above offset comp =
    if nat_lt offset (stack_size + length comp.globals) then slice_get comp.globals (offset - stack_size)
    else zone_byte comp.heap offset

abbrev pub data_byte : ℕ → CompPart → Option ℕ
data_byte offset comp = if nat_lt offset stack_size then Some 0 else byte_above offset comp

abbrev pub byte_by_offset : ImageParts → ByteMemory
byte_by_offset image address = if nat_lt address (data_start 0) then None else option_and_then
    (data_byte ((address - data_start 0) % stretch)) (slice_get image.comps (comp_of_data address))

abbrev zone_part : (c : ℕ) → (heap : Bool) → List Filled
zone_part c heap =
    if heap then record { region = record { start = zone_start c; bytes = zone_size }; bytes = [] } ∷ [] else []

-- what lies above the stack
abbrev above_part : (c : ℕ) → CompPart → List Filled
above_part c comp =
    record { region = record { start = stack_top c; bytes = length comp.globals }; bytes = comp.globals } ∷
    zone_part c comp.heap

module _ (c a : ℕ) where
  before_zone : (heap : Bool) → a < data_start c → byte_at (zone_part c heap) a ≡ None
  before_zone true low = rw (lt-leb (zone_start c) a (omega (arith, low))) refl
  before_zone false low = refl

  before_data : (globals : List ℕ) (heap : Bool) → a < data_start c → byte_at (data_with c globals heap) a ≡ None
  before_data globals heap low = rw (lt-leb (data_start c) a low, lt-leb (stack_top c) a (omega (arith, low)))
      (before_zone heap low)

  -- the tests of the regions, by the offset
  module _ (from : data_start c ≤ a) where
    in_stack : (nat_le (data_start c) a && nat_lt a (data_start c + stack_size)) ≡ nat_lt (a - data_start c) stack_size
    in_stack = grind (arith, nat_tests)

    in_globals : (count : ℕ) → stack_top c ≤ a →
        (nat_le (stack_top c) a && nat_lt a (stack_top c + count)) ≡ nat_lt (a - data_start c) (stack_size + count)
    in_globals count top = grind (arith, nat_tests)

    in_zone : (nat_le (zone_start c) a && nat_lt a (zone_start c + zone_size)) ≡
        (nat_le zone_offset (a - data_start c) && nat_lt (a - data_start c) (zone_offset + zone_size))
    in_zone = grind (arith, nat_tests)

    zone_is : (heap : Bool) → byte_at (zone_part c heap) a ≡ zone_byte heap (a - data_start c)
    zone_is true = ap (λ inside. if inside then Some 0 else None) in_zone
    zone_is false = refl

    place : a - data_start c - stack_size ≡ a - stack_top c
    place = omega arith

    global_by : (globals : List ℕ) (inside : Bool) (other : Option ℕ) → stack_top c ≤ a →
        nat_lt (a - data_start c) (stack_size + length globals) ≡ inside →
        (if inside then Some (slice_index globals (a - stack_top c)) else other) ≡
        (if inside then slice_get globals (a - data_start c - stack_size) else other)
    global_by globals true other top is =
        let below : a - data_start c < stack_size + length globals = ltb-true _ _ is in
        rw place (sym (slice_get-get_or globals _ 0 (omega (arith, top, below))))
    global_by globals false other top is = refl

    above_is : (comp : CompPart) → stack_top c ≤ a →
        byte_at (above_part c comp) a ≡ byte_above (a - data_start c) comp
    above_is comp top =
        ap₂ (λ inside byte. if inside then Some (slice_index comp.globals (a - stack_top c)) else byte)
        (in_globals (length comp.globals) top) (zone_is comp.heap) ∙ global_by comp.globals _ _ top refl

    data_by : (comp : CompPart) (inside : Bool) → nat_lt (a - data_start c) stack_size ≡ inside →
        (if inside then Some 0 else byte_at (above_part c comp) a) ≡
        (if inside then Some 0 else byte_above (a - data_start c) comp)
    data_by comp true is = refl
    data_by comp false is = above_is comp (grind (arith, nat_tests))

    data_is : (comp : CompPart) → byte_at (data_with c comp.globals comp.heap) a ≡ data_byte (a - data_start c) comp
    data_is comp =
        ap (λ inside. if inside then Some 0 else byte_at (above_part c comp) a) in_stack ∙ data_by comp _ refl

module _ (a : ℕ) where
  low_by : (c : ℕ) (found : Option CompPart) → a < data_start 0 →
      option_and_then (λ comp. byte_at (data_with c comp.globals comp.heap) a) found ≡ None
  low_by c None low = refl
  low_by c (Some comp) low = before_data c a _ _ (omega (arith, low))

  from_by : (c : ℕ) (found : Option CompPart) → comp_of_data a ≡ c → data_start 0 ≤ a →
      option_and_then (λ comp. byte_at (data_with c comp.globals comp.heap) a) found ≡
      option_and_then (data_byte ((a - data_start 0) % stretch)) found
  from_by c None of from = refl
  from_by c (Some comp) of from =
      let offset : (a - data_start 0) % stretch ≡ a - data_start c = omega (arith, of, from) in
      data_is c a (omega (arith, of, from)) comp ∙ ap (λ k. data_byte k comp) (sym offset)

  pub start_is : (image : ImageParts) → start_memory image a ≡ byte_by_offset image a
  unfolding start_memory
  start_is image = ⊎_elim (λ low. low_by _ _ low ∙ sym (rw (lt-ltb a _ low) refl)) (λ from. from_by _ _ refl from ∙
      sym (rw (le-ltb a _ from) refl)) (cases_lt a _)

-- What a memory holds are bytes, at addresses of 32 bits: at the start, and after a store.

abbrev IsByteAt : ℕ → ℕ → Type 0
IsByteAt address byte = (address < 2 ^ 32) × (byte < 256)

digit : (n : ℕ) → n % 256 < 256
digit n = omega arith

module _ (image : ImageParts) (formed : IsWellFormed image) (c a size word : ℕ) (memory : ByteMemory)
    (active : c < length image.comps) (owned : are_data image c a size ≡ true) (bytes : HoldsBytes memory) where
  data_below : (x : ℕ) → a ≤ x → x < a + size → x < 2 ^ 32
  data_below x from upto =
      let m = data_bounds image c a size formed (omega (arith, from, upto)) owned in
      omega (arith, m.1, upto, active, formed.few_comps)

  stored_by : (x byte : ℕ) (inside : Bool) → (nat_le a x && nat_lt x (a + size)) ≡ inside →
      (if inside then Some (byte_of word (x - a)) else memory x) ≡ Some byte → IsByteAt x byte
  stored_by x byte true is at =
      let same : byte_of word (x - a) ≡ byte = cc at in
      let tests = and_parts (nat_le a x) _ is in (
        data_below x (leb-true a x tests.0) (ltb-true x _ tests.1),
        subst (λ b. b < 256) same (digit _),
      )
  stored_by x byte false is at = bytes x byte at

pub stored_bytes : (image : ImageParts) → IsWellFormed image → (c a size word : ℕ) (memory : ByteMemory) →
    c < length image.comps → refused image c size a ≡ None → HoldsBytes memory → HoldsBytes (with_bytes memory a size
    word)
stored_bytes image formed c a size word memory active allowed bytes x byte at =
    stored_by image formed c a size word memory active (allowed_data image c size a allowed) bytes x byte _ refl at

-- the start

module _ (image : ImageParts) (formed : IsWellFormed image) (a b : ℕ) where
  global_byte : (c : ℕ) (comp : CompPart) → slice_get image.comps c ≡ Some comp → (k : ℕ) →
      slice_get comp.globals k ≡ Some b → b < 256
  global_byte c comp is k at =
      subst IsByte (get_or_from_slice_get _ k b b at) ((formed.comps c comp is).bytes k b (slice_get_within _ k b at))

  zero_byte : ◌≡◌ (Some 0) (Some b) → b < 256
  zero_byte is = let same : ◌≡◌ 0 b = cc is in subst (λ n. n < 256) same (omega arith)

  byte_in_zone : (inside : Bool) → (if inside then Some 0 else None) ≡ Some b → b < 256
  byte_in_zone true is = zero_byte is
  byte_in_zone false is = let never = is in cc never

  byte_by : (c : ℕ) (comp : CompPart) → slice_get image.comps c ≡ Some comp →
      (offset : ℕ) (in_stack in_globals : Bool) →
      (if in_stack then Some 0 else if in_globals then slice_get comp.globals (offset - stack_size)
      else zone_byte comp.heap offset) ≡ Some b → b < 256
  byte_by c comp is offset true in_globals at = zero_byte at
  byte_by c comp is offset false true at = global_byte c comp is _ at
  byte_by c comp is offset false false at = byte_in_zone _ at

  start_by : (comp : Option CompPart) → slice_get image.comps (comp_of_data a) ≡ comp →
      option_and_then (data_byte ((a - data_start 0) % stretch)) comp ≡ Some b → IsByteAt a b
  start_by None is at = let never = at in cc never
  start_by (Some comp) is at =
      let within = slice_get_within _ (comp_of_data a) comp is in (
        omega (arith, within, formed.few_comps),
        byte_by _ comp is _ _ _ at,
      )

  below_by : (below : Bool) → (if below then None else option_and_then (data_byte ((a - data_start 0) % stretch))
      (slice_get image.comps (comp_of_data a))) ≡ Some b → IsByteAt a b
  below_by true at = let never = at in cc never
  below_by false at = start_by _ refl at

  start_byte : start_memory image a ≡ Some b → IsByteAt a b
  start_byte at = below_by (nat_lt a (data_start 0)) (sym (start_is a image) ∙ at)

pub start_bytes : (image : ImageParts) → IsWellFormed image → HoldsBytes (start_memory image)
start_bytes image formed a b at = start_byte image formed a b at
