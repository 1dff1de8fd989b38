-- The code and the data of a compartment: what its words are, which accesses are allowed, and returns by a jump.
use Rattle.sc_machine.proofs.Common.{Bool, CompPart, Filled, Goes, HasBytes, ImageParts, IsSome, IsWellFormed, List}
use Rattle.sc_machine.proofs.Common.{MachineState, None, OnSome, Option, Some, [], add-zero, add_word, and_parts, ap}
use Rattle.sc_machine.proofs.Common.{ap₂, are_data, arith, byte_at, cases_eq, cases_lt, code_in, code_start}
use Rattle.sc_machine.proofs.Common.{comp_of_data}
use Rattle.sc_machine.proofs.Common.{data_end, data_regions, data_start, data_with, eq-eqb, execute, execute_by, false}
use Rattle.sc_machine.proofs.Common.{false≢true}
use Rattle.sc_machine.proofs.Common.{gate, has_heap, if◌then◌else◌, initial_globals, is_in, is_some, le-leb, length}
use Rattle.sc_machine.proofs.Common.{list_any, lt-leb, map, most_globals, nat_le, nat_lt, ne_eqb, on_return, refl, reg}
use Rattle.sc_machine.proofs.Common.{slice_get, slice_get_cases, slice_get_past, slice_get_within, slice_index}
use Rattle.sc_machine.proofs.Common.{stack_size, stack_top}
use Rattle.sc_machine.proofs.Common.{start_memory, stretch, subst, suc, sym, true, word_at, word_of, zero, zone_start}
use Rattle.sc_machine.proofs.Common.{ℕ, ℤ, ⊎_elim, ◌%◌, ◌&&◌, ◌*◌, ◌+◌, ◌-◌, ◌/◌, ◌<◌, ◌||◌, ◌∙◌, ◌∷◌, ◌≡◌, ◌≢◌, ◌≤◌}
use Rattle.sc_machine.specs.Place.{IsLookedUp, IsPlace}
use Rattle.sc_store.specs.declared.region.Region.{Region}
use Rattle.rv_code.specs.declared.instr.Instr.TheVariants.{Jalr}
use Rattle.std.proofs.lemmas.Bool.Decides.{nat_tests}

-- where an address has no whole word, and where it may have one
pub misaligned : (image : ImageParts) (c address : ℕ) → address % 4 ≢ 0 → word_at image c address ≡ None
unfolding word_at
misaligned image c address h = rw (ne_eqb _ _ h) refl

pub aligned : (image : ImageParts) (c address : ℕ) → IsSome (word_at image c address) → address % 4 ≡ 0
aligned image c address some = ⊎_elim (λ even. even)
    (λ odd. absurd (false≢true (rw (misaligned image c address odd) at some))) (cases_eq (address % 4) 0)

pub below_code : (image : ImageParts) (c address : ℕ) → address % 4 ≡ 0 → address < code_start c →
    word_at image c address ≡ None
unfolding word_at
below_code image c address e h = rw (eq-eqb _ _ e, lt-leb _ _ h) refl

pub in_code : (image : ImageParts) (c address : ℕ) → address % 4 ≡ 0 → code_start c ≤ address →
    word_at image c address ≡ slice_get (code_in image c) ((address - code_start c) / 4)
unfolding word_at
in_code image c address e h = rw (eq-eqb _ _ e, le-leb _ _ h) refl

-- a number that isn't beyond all code and data is that of a word
number_inside : (from a i : ℕ) → (from ≤ a → a % 4 ≡ 0 → i ≡ (a - from) / 4) → (a < from → 536870912 ≤ i) →
    (a % 4 ≢ 0 → 536870912 ≤ i) → i < 536870912 → (from ≤ a) × (a % 4 ≡ 0) × (i ≡ (a - from) / 4)
number_inside from a i word before between near =
    let high : from ≤ a = ⊎_elim (λ low. absurd (omega (arith, near, before low))) (λ above. above)
    (cases_lt a from) in
    let whole : a % 4 ≡ 0 = ⊎_elim (λ even. even) (λ odd. absurd (omega (arith, near, between odd)))
    (cases_eq (a % 4) 0) in
    (high, whole, word high whole)

-- a compartment's code and globals are short
pub short_code : (image : ImageParts) (c : ℕ) (comp : CompPart) → IsWellFormed image →
    slice_get image.comps c ≡ Some comp → 4 * length comp.code ≤ stretch
short_code image c comp well_formed found = (well_formed.comps c comp found).short_code

pub short_globals : (image : ImageParts) (c : ℕ) (comp : CompPart) → IsWellFormed image →
    slice_get image.comps c ≡ Some comp → length comp.globals ≤ most_globals
short_globals image c comp well_formed found = (well_formed.comps c comp found).short_globals

-- the same by what was looked up
module _ {image : ImageParts} {c : ℕ} {words : List ℕ} {code_from data_from bytes : ℕ} {zone : Bool}
    (looked : IsLookedUp image c words code_from data_from bytes zone) where
  pub looked_from : IsPlace image c → (code_from % 4 ≡ 0) × (code_from < 1073741824)
  looked_from place = (
    omega (arith, looked.code_from_is),
    omega (arith, looked.code_from_is, place.within, place.formed.few_comps),
  )

  -- by a number that is the word's, and beyond all code where there is none
  pub looked_word : (a i : ℕ) → (code_from ≤ a → a % 4 ≡ 0 → i ≡ (a - code_from) / 4) →
      (a < code_from → 536870912 ≤ i) → (a % 4 ≢ 0 → 536870912 ≤ i) → slice_get words i ≡ word_at image c a
  looked_word a i word before between = ⊎_elim whole (λ odd. none (between odd) ∙ sym (misaligned image c a odd))
      (cases_eq (a % 4) 0) where
        none : 536870912 ≤ i → slice_get words i ≡ None
        none far = slice_get_past words i (omega (arith, looked.few_words, far))

        whole : a % 4 ≡ 0 → slice_get words i ≡ word_at image c a
        whole e = ⊎_elim (λ low. none (before low) ∙ sym (below_code image c a e (rw looked.code_from_is at low)))
            (λ high. rw (word high e, looked.words_are, looked.code_from_is)
            (sym (in_code image c a e (rw looked.code_from_is at high)))) (cases_lt a code_from)

  -- the next address has 32 bits
  pub looked_within : (a i : ℕ) → IsPlace image c → (code_from ≤ a → a % 4 ≡ 0 → i ≡ (a - code_from) / 4) →
      (a < code_from → 536870912 ≤ i) → (a % 4 ≢ 0 → 536870912 ≤ i) → (found : Option ℕ) →
      found ≡ slice_get words i → OnSome found (a + 4 < 4294967296)
  looked_within a i place word before between None is = tt
  looked_within a i place word before between (Some found) is =
      let within = slice_get_within words i found (sym is) in
      let is_one = number_inside code_from a i word before between (omega (arith, looked.few_words, within)) in
      omega (arith, looked.few_words, looked.code_from_is, place.within, place.formed.few_comps, within, is_one)

-- Jumps, by the case of their target.

pub jalr_returns : (image : ImageParts) (inputs : List ℕ) (state : MachineState) (rd rs1 : ℕ) (imm : ℤ) (sum : ℕ) →
    sum ≡ add_word (reg state rs1) (word_of imm) → rd ≡ 0 → sum / 2 * 2 ≡ gate →
    execute image inputs state (Jalr rd rs1 imm) ≡ Goes (on_return image state state.cross)
unfolding execute_by
jalr_returns image inputs state rd rs1 imm sum is zero_is at =
    let nothing = below_code image state.active gate refl (omega arith) in
    rw (sym is, at, zero_is, nothing) refl

-- Which accesses are allowed, and that there is memory for them.

-- One address: in one of the regions of the compartment's data.

abbrev in_any : List Region → ℕ → Bool
in_any regions x = list_any (λ region. is_in region x) regions

-- where it lies, by where the stack, the globals and the zone begin and end
abbrev in_two : (low top past x : ℕ) → Bool
in_two low top past x = nat_le low x && nat_lt x top || (nat_le top x && nat_lt x past || false)

abbrev in_three : (low top past zone end x : ℕ) → Bool
in_three low top past zone end x =
    nat_le low x && nat_lt x top || (nat_le top x && nat_lt x past || (nat_le zone x && nat_lt x end || false))

-- Some addresses one after another: without a zone they lie in one range, and with one in one of two ranges, or in both
-- where there is nothing between these.

abbrev in_range : (low past a size : ℕ) → Bool
in_range low past a size = nat_le low a && nat_le (a + size) past

abbrev in_ranges : (low past zone end a size : ℕ) → Bool
in_ranges low past zone end a size =
    nat_le low a && (nat_le (a + size) past || (nat_le zone a || nat_le zone past) && nat_le (a + size) end)

range_one : (low top past x : ℕ) → low ≤ top → top ≤ past → in_two low top past x ≡ in_range low past x 1
range_one low top past x h k = grind (arith, nat_tests)

range_more : (low past a k : ℕ) → (in_range low past a (suc k) && in_range low past (a + suc k) 1) ≡
    in_range low past a (suc (suc k))
range_more low past a k = grind (arith, nat_tests)

module _ (low top past zone end : ℕ) (first : low < top) (second : top ≤ past) (third : past ≤ zone)
    (last : zone < end) where
  ranges_one : (x : ℕ) → in_three low top past zone end x ≡ in_ranges low past zone end x 1
  ranges_one x = grind (arith, nat_tests)

  ranges_more : (a k : ℕ) → (in_ranges low past zone end a (suc k) && in_ranges low past zone end (a + suc k) 1) ≡
      in_ranges low past zone end a (suc (suc k))
  ranges_more a k = grind (arith, nat_tests)

  -- and so between its bounds
  three_bounds : (x : ℕ) → in_three low top past zone end x ≡ true → (low ≤ x) × (x < end)
  three_bounds x h = (grind (arith, nat_tests), grind (arith, nat_tests))

  two_bounds : (x : ℕ) → in_two low top past x ≡ true → (low ≤ x) × (x < end)
  two_bounds x h = (grind (arith, nat_tests), grind (arith, nat_tests))

module _ (image : ImageParts) (c : ℕ) where
  abbrev past_globals : ℕ
  past_globals = stack_top c + length (initial_globals image c)

  regions_by : (heap : Bool) → has_heap image c ≡ heap → (x : ℕ) → in_any (data_regions image c) x ≡
      in_any (map (λ (filled : Filled). filled.region) (data_with c (initial_globals image c) heap)) x
  regions_by heap is x = ap (λ (h : Bool). in_any (map (λ (filled : Filled). filled.region)
      (data_with c (initial_globals image c) h)) x) is

  -- without a zone
  plain : has_heap image c ≡ false → (a k : ℕ) →
      are_data image c a (suc k) ≡ in_range (data_start c) past_globals a (suc k)
  unfolding are_data
  plain is a zero = ap (in_any (data_regions image c)) (add-zero a) ∙ regions_by false is a ∙
      range_one (data_start c) (stack_top c) past_globals a (omega arith) (omega arith)
  plain is a (suc k) = ap₂ (λ (x y : Bool). x && y) (plain is a k) (regions_by false is (a + suc k) ∙
      range_one (data_start c) (stack_top c) past_globals (a + suc k) (omega arith) (omega arith)) ∙
      range_more (data_start c) past_globals a k

  -- with one
  module _ (few : length (initial_globals image c) ≤ most_globals) (is : has_heap image c ≡ true) where
    with_zone : (a k : ℕ) → are_data image c a (suc k) ≡
        in_ranges (data_start c) past_globals (zone_start c) (data_end c) a (suc k)
    unfolding are_data
    with_zone a zero = ap (in_any (data_regions image c)) (add-zero a) ∙ regions_by true is a ∙
        ranges_one (data_start c) (stack_top c) past_globals (zone_start c) (data_end c) (omega arith) (omega arith)
        (omega (arith, few)) (omega arith) a
    with_zone a (suc k) = ap₂ (λ (x y : Bool). x && y) (with_zone a k) (regions_by true is (a + suc k) ∙
        ranges_one (data_start c) (stack_top c) past_globals (zone_start c) (data_end c) (omega arith) (omega arith)
        (omega (arith, few)) (omega arith) (a + suc k)) ∙
        ranges_more (data_start c) (stack_top c) past_globals (zone_start c) (data_end c) (omega arith) (omega arith)
        (omega (arith, few)) (omega arith) a k

  -- an address of the data lies in its stretch
  bounds : length (initial_globals image c) ≤ most_globals → (x : ℕ) → in_any (data_regions image c) x ≡ true →
      (data_start c ≤ x) × (x < data_end c)
  bounds few x inside = by (has_heap image c) refl where
    by : (heap : Bool) → has_heap image c ≡ heap → (data_start c ≤ x) × (x < data_end c)
    by true is = three_bounds (data_start c) (stack_top c) past_globals (zone_start c) (data_end c) (omega arith)
        (omega arith) (omega (arith, few)) (omega arith) x (sym (regions_by true is x) ∙ inside)
    by false is = two_bounds (data_start c) (stack_top c) past_globals (zone_start c) (data_end c) (omega arith)
        (omega arith) (omega (arith, few)) (omega arith) x (sym (regions_by false is x) ∙ inside)

-- There is a byte at each of a compartment's addresses at the start.

some_at : (all : List Filled) (x : ℕ) →
    is_some (byte_at all x) ≡ in_any (map (λ (filled : Filled). filled.region) all) x
some_at [] x = refl
some_at (filled ∷ others) x = by (is_in filled.region x) (some_at others x) where
  by : (inside : Bool) → is_some (byte_at others x) ≡ in_any (map (λ (other : Filled). other.region) others) x →
      is_some (if inside then Some (slice_index filled.bytes (x - filled.region.start)) else byte_at others x) ≡
      (inside || in_any (map (λ (other : Filled). other.region) others) x)
  by true rest = refl
  by false rest = rest

start_there : (image : ImageParts) (c x : ℕ) (comp : CompPart) → slice_get image.comps c ≡ Some comp →
    length (initial_globals image c) ≤ most_globals → in_any (data_regions image c) x ≡ true →
    is_some (start_memory image x) ≡ true
unfolding start_memory
start_there image c x comp found few inside =
    let bound = bounds image c few x inside in
    let number : comp_of_data x ≡ c = omega (arith, bound) in
    let all = data_with c comp.globals comp.heap in
    let same : data_regions image c ≡ map (λ (filled : Filled). filled.region) all = rw found refl in
    rw (number, found) (some_at all x ∙ sym (ap (λ regions. in_any regions x) same) ∙ inside)

-- each byte of an access that is the compartment's
one_of : (image : ImageParts) (c a size k : ℕ) → are_data image c a size ≡ true → k < size →
    in_any (data_regions image c) (a + k) ≡ true
unfolding are_data
one_of image c a zero k all within = absurd (omega (arith, within))
one_of image c a (suc size) k all within =
    let parts = and_parts (are_data image c a size) _ all in
    ⊎_elim (λ low. one_of image c a size k parts.0 low)
    (λ past. let last : k ≡ size = omega (arith, past, within) in
    subst (λ j. in_any (data_regions image c) (a + j) ≡ true) (sym last) parts.1) (cases_lt k size)

few_globals : (image : ImageParts) (c : ℕ) → IsPlace image c → length (initial_globals image c) ≤ most_globals
few_globals image c place =
    ⊎_elim (λ found. rw found.2 (place.formed.comps c found.0 found.2).short_globals)
    (λ none. absurd (omega (arith, none.0, place.within))) (slice_get_cases image.comps c).1

pub data_there : (image : ImageParts) (c a size : ℕ) → IsPlace image c → are_data image c a size ≡ true →
    HasBytes (start_memory image) a size
data_there image c a size place h k below =
    ⊎_elim (λ found. start_there image c (a + k) found.0 found.2 (few_globals image c place)
    (one_of image c a size k h below))
    (λ none. absurd (omega (arith, none.0, place.within))) (slice_get_cases image.comps c).1

-- The owner's test, by what was looked up.

not_below : (low a : ℕ) (rest : Bool) → a < low → (nat_le low a && rest) ≡ false
not_below low a rest h = rw (lt-leb low a h) refl

near_range : (low past a size : ℕ) → low ≤ a → a + size ≤ past → in_range low past a size ≡ true
near_range low past a size h k = grind (arith, nat_tests)

near_ranges : (low past zone end a size : ℕ) → low ≤ a → a + size ≤ past → in_ranges low past zone end a size ≡ true
near_ranges low past zone end a size h k = grind (arith, nat_tests)

far_range : (low past a size : ℕ) → past < a + size → in_range low past a size ≡ false
far_range low past a size h = grind (arith, nat_tests)

-- beyond the globals, by where the data begin and where the zone does
into_zone : (low bytes past end offset size : ℕ) → past ≡ low + bytes → end ≡ low + 0xC0000 → offset < 0x80000 →
    size ≤ 4 → bytes < offset + size → nat_le 0x80000 bytes ≡ in_ranges low past (low + 0x80000) end (low + offset) size
into_zone low bytes past end offset size is ends below few beyond = grind (arith, nat_tests)

inside_zone : (low bytes past end offset size : ℕ) → past ≡ low + bytes → end ≡ low + 0xC0000 → 0x80000 ≤ offset →
    size ≤ 4 → bytes < offset + size →
    nat_le offset (0xC0000 - size) ≡ in_ranges low past (low + 0x80000) end (low + offset) size
inside_zone low bytes past end offset size is ends above few beyond = grind (arith, nat_tests)

module _ {image : ImageParts} {c : ℕ} {words : List ℕ} {code_from data_from bytes : ℕ} {zone : Bool}
    (looked : IsLookedUp image c words code_from data_from bytes zone) where
  few : length (initial_globals image c) ≤ most_globals
  few = omega (arith, looked.bytes_are, looked.few_bytes)

  pub looked_below : (a size : ℕ) → 0 < size → a < data_from → are_data image c a size ≡ false
  looked_below a zero some low = absurd (omega (arith, some))
  looked_below a (suc k) some low = by (has_heap image c) refl where
    by : (heap : Bool) → has_heap image c ≡ heap → are_data image c a (suc k) ≡ false
    by true is = with_zone image c few is a k ∙ not_below (data_start c) a _ (rw looked.data_from_is at low)
    by false is = plain image c is a k ∙ not_below (data_start c) a _ (rw looked.data_from_is at low)

  -- within the stack and the globals
  pub looked_near : (a size : ℕ) → 0 < size → size ≤ 4 → data_from ≤ a → a - data_from ≤ bytes - size →
      are_data image c a size ≡ true
  looked_near a zero some small low near = absurd (omega (arith, some))
  looked_near a (suc k) some small low near = by (has_heap image c) refl where
    upto : a + suc k ≤ past_globals image c
    upto = omega (arith, looked.data_from_is, looked.bytes_are, small, low, near)

    by : (heap : Bool) → has_heap image c ≡ heap → are_data image c a (suc k) ≡ true
    by true is = with_zone image c few is a k ∙ near_ranges (data_start c) (past_globals image c) (zone_start c)
        (data_end c) a (suc k) (rw looked.data_from_is at low) upto
    by false is = plain image c is a k ∙ near_range (data_start c) (past_globals image c) a (suc k)
        (rw looked.data_from_is at low) upto

  pub looked_data_from : IsPlace image c → (data_from % 4 ≡ 0) × (data_from < 1073741824)
  looked_data_from place = (
    omega (arith, looked.data_from_is),
    omega (arith, looked.data_from_is, place.within, place.formed.few_comps),
  )

  -- a whole word there, by its number
  pub looked_near_word : (a i : ℕ) → (data_from ≤ a → a % 4 ≡ 0 → i ≡ (a - data_from) / 4) →
      (a < data_from → 536870912 ≤ i) → (a % 4 ≢ 0 → 536870912 ≤ i) → i < bytes / 4 →
      (a % 4 ≡ 0) × (are_data image c a 4 ≡ true)
  looked_near_word a i word before between inside =
      let is_one = number_inside data_from a i word before between (omega (arith, looked.few_bytes, inside)) in
      let from : data_from % 4 ≡ 0 = omega (arith, looked.data_from_is) in
      let near : a - data_from ≤ bytes - 4 = omega (arith, from, inside, is_one) in
      (is_one.1, looked_near a 4 (omega arith) (omega arith) is_one.0 near)

  -- beyond them, where there is no zone
  pub looked_far : (a size : ℕ) → 0 < size → size ≤ 4 → bytes - size < a - data_from → zone ≡ false →
      are_data image c a size ≡ false
  looked_far a zero some small far none = absurd (omega (arith, some))
  looked_far a (suc k) some small far none = plain image c (sym looked.zone_is ∙ none) a k ∙
      far_range (data_start c) (past_globals image c) a (suc k)
      (omega (arith, looked.data_from_is, looked.bytes_are, small, far))

  -- and where there is one: half in it, or in it
  pub looked_into : (offset size : ℕ) → 0 < size → size ≤ 4 → has_heap image c ≡ true →
      stack_size + length (initial_globals image c) < offset + size → offset < 0x80000 →
      nat_le 0x80000 bytes ≡ are_data image c (data_start c + offset) size
  looked_into offset zero some small heap beyond below = absurd (omega (arith, some))
  looked_into offset (suc k) some small heap beyond below =
      into_zone (data_start c) bytes (past_globals image c) (data_end c) offset (suc k)
      (omega (arith, looked.bytes_are)) (omega arith) below small (omega (arith, looked.bytes_are, beyond)) ∙
      sym (with_zone image c few heap (data_start c + offset) k)

  pub looked_inside : (offset size : ℕ) → 0 < size → size ≤ 4 → has_heap image c ≡ true →
      stack_size + length (initial_globals image c) < offset + size → 0x80000 ≤ offset →
      nat_le offset (0xC0000 - size) ≡ are_data image c (data_start c + offset) size
  looked_inside offset zero some small heap beyond above = absurd (omega (arith, some))
  looked_inside offset (suc k) some small heap beyond above =
      inside_zone (data_start c) bytes (past_globals image c) (data_end c) offset (suc k)
      (omega (arith, looked.bytes_are)) (omega arith) above small (omega (arith, looked.bytes_are, beyond)) ∙
      sym (with_zone image c few heap (data_start c + offset) k)
