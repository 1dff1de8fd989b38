-- The memory at the start: zeros, and then the globals.
use Rattle.sc_machine.proofs.Common.{All, All-cons, All-head, All-nil, All-tail, AreApart, AreBelow, Bool, ByteMemory}
use Rattle.sc_machine.proofs.Common.{CompPart, Filled, HasBytes, HasFewGlobals, ImageParts, IsIn, IsSome, IsWellFormed}
use Rattle.sc_machine.proofs.Common.{List, None, Option, Some, [], all_data, ap, append-nil, append_assoc, ap₂, arith}
use Rattle.sc_machine.proofs.Common.{byte_at, byte_of, cases_lt, comp_of_data, data_start, data_with, false}
use Rattle.sc_machine.proofs.Common.{filled_with, get_or, get_or_past, if◌then◌else◌, is_in, length, lt-leb}
use Rattle.sc_machine.proofs.Common.{most_globals, nat_le, nat_lt, refl, regions_of, slice_get, slice_get-get_or}
use Rattle.sc_machine.proofs.Common.{slice_index, stack_size, stack_top, stack_tops, start_memory, stretch, suc, sym}
use Rattle.sc_machine.proofs.Common.{take, true, with_bytes, written, written-apart, written-in, written-stored}
use Rattle.sc_machine.proofs.Common.{written_nothing, zero, zeros, zone_size, zone_start, ℕ, ⊎_elim, ◌&&◌, ◌++◌, ◌+◌}
use Rattle.sc_machine.proofs.Common.{◌-◌, ◌<◌, ◌^◌, ◌||◌, ◌∙◌, ◌∷◌, ◌≡◌, ◌≤◌}
use Rattle.sc_machine.specs.Regions.{own_regions, store_regions, zone_regions}
use Rattle.sc_store.specs.declared.region.Region.{Region}
use Rattle.std.proofs.lemmas.Bool.Decides.{nat_tests}
use Rattle.std.specs.Option.{option_and_then}
use Rattle.sc_store.proofs.Words.{in_cases, in_false, in_true}

-- One byte.

byte_is : (x k : ℕ) → x < 256 → k ≡ 0 → get_or (x ∷ []) k 0 ≡ byte_of x k
byte_is x k h zero_is = rw zero_is (omega arith)

pub one_stored : (m : ByteMemory) (a x : ℕ) → x < 256 → with_bytes m a 1 x ≡ written m a (x ∷ [])
one_stored m a x h = sym (written-stored m a (x ∷ []) x (λ k below. byte_is x k h (omega arith)))

-- The compartments.

pub all_few : (image : ImageParts) → IsWellFormed image → All HasFewGlobals image.comps
all_few image formed = λ i d within. (formed.comps i (get_or _ i d) (slice_get-get_or _ i d within)).short_globals

-- Regions one after another, from an address on.

abbrev pub Ordered : ℕ → List Region → Type 0
Ordered low [] = Unit {0}
Ordered low (region ∷ regions) = (low ≤ region.start) × Ordered (region.start + region.bytes) regions

starts_from : (regions : List Region) (low i : ℕ) (d : Region) → Ordered low regions → i < length regions →
    low ≤ (get_or regions i d).start
starts_from [] low i d order within = absurd (omega (arith, within))
starts_from (region ∷ regions) low zero d order within = order.0
starts_from (region ∷ regions) low (suc i) d order within =
    omega (arith, order.0, starts_from regions _ i d order.1 (omega (arith, within)))

pub apart_by : (regions : List Region) (low : ℕ) → Ordered low regions → AreApart regions
apart_by [] low order i j d before within a one other = absurd (omega (arith, within))
apart_by (region ∷ regions) low order zero zero d before within a one other = absurd (omega (arith, before))
apart_by (region ∷ regions) low order zero (suc j) d before within a one other =
    omega (arith, one.1, other.0, starts_from regions _ j d order.1 (omega (arith, within)))
apart_by (region ∷ regions) low order (suc i) zero d before within a one other = absurd (omega (arith, before))
apart_by (region ∷ regions) low order (suc i) (suc j) d before within a one other =
    apart_by regions _ order.1 i j d (omega (arith, before)) (omega (arith, within)) a one other

-- Those of the compartments.

module _ (comp : CompPart) (c : ℕ) where
  abbrev stack : Filled
  stack = record { region = record { start = data_start c; bytes = stack_size }; bytes = [] }

  abbrev globals : Filled
  globals = record { region = record { start = stack_top c; bytes = length comp.globals }; bytes = comp.globals }

-- its zone, if it has one
abbrev zone : ℕ → Filled
zone c = record { region = record { start = zone_start c; bytes = zone_size }; bytes = [] }

abbrev zone_if : Bool → ℕ → List Filled
zone_if heap c = if heap then zone c ∷ [] else []

zone_ordered : (heap : Bool) (c low : ℕ) (rest : List Filled) → low ≤ zone_start c →
    ((from : ℕ) → from ≤ data_start (suc c) → Ordered from (regions_of rest)) →
    Ordered low (regions_of (zone_if heap c ++ rest))
zone_ordered true c low rest below follows = (below, follows _ (omega arith))
zone_ordered false c low rest below follows = follows low (omega (arith, below))

ordered : (comps : List CompPart) (c low : ℕ) → All HasFewGlobals comps → low ≤ data_start c →
    Ordered low (regions_of (all_data c comps))
ordered [] c low few from = tt
ordered (comp ∷ comps) c low few from =
    let first = All-head HasFewGlobals comp comps few in (
      from,
      (
        omega arith,
        zone_ordered comp.heap c _ (all_data (suc c) comps) (omega (arith, first))
            (λ next below. ordered comps (suc c) next (All-tail HasFewGlobals comp comps few) below),
      ),
    )

-- Those of the store.

zone_follows : (heap : Bool) (c low : ℕ) (rest : List Region) → low ≤ zone_start c →
    ((from : ℕ) → from ≤ data_start (suc c) → Ordered from rest) → Ordered low (zone_regions heap c ++ rest)
zone_follows true c low rest below follows = (below, follows _ (omega arith))
zone_follows false c low rest below follows = follows low (omega (arith, below))

store_ordered : (comps : List CompPart) (c low : ℕ) → All HasFewGlobals comps → low ≤ data_start c →
    Ordered low (store_regions c comps)
store_ordered [] c low few from = tt
store_ordered (comp ∷ comps) c low few from =
    let first = All-head HasFewGlobals comp comps few in (
      from,
      zone_follows comp.heap c _ (store_regions (suc c) comps) (omega (arith, first))
          (λ next below. store_ordered comps (suc c) next (All-tail HasFewGlobals comp comps few) below),
    )

pub regions_apart : (comps : List CompPart) → All HasFewGlobals comps → AreApart (store_regions 0 comps)
regions_apart comps few = apart_by _ 0 (store_ordered comps 0 0 few (omega arith))

abbrev IsBelow : Region → Type 0
IsBelow region = region.start + region.bytes ≤ 2 ^ 32

zone_below : (heap : Bool) (c : ℕ) (rest : List Region) → c < 32 → AreBelow rest →
    AreBelow (zone_regions heap c ++ rest)
zone_below true c rest few below = All-cons IsBelow (zone c).region rest (omega (arith, few)) below
zone_below false c rest few below = below

below_from : (comps : List CompPart) (c : ℕ) → c + length comps ≤ 32 → All HasFewGlobals comps →
    AreBelow (store_regions c comps)
below_from [] c count few = All-nil IsBelow
below_from (comp ∷ comps) c count few =
    let first = All-head HasFewGlobals comp comps few in
    All-cons IsBelow (record { start = data_start c; bytes = stack_size + length comp.globals })
    (zone_regions comp.heap c ++ store_regions (suc c) comps) (omega (arith, count, first))
    (zone_below comp.heap c (store_regions (suc c) comps) (omega (arith, count))
    (below_from comps (suc c) (omega (arith, count)) (All-tail HasFewGlobals comp comps few)))

pub regions_below : (comps : List CompPart) → length comps ≤ 32 → All HasFewGlobals comps →
    AreBelow (store_regions 0 comps)
regions_below comps count few = below_from comps 0 (omega (arith, count)) few

-- the stack and the globals have the addresses of their region
in_both : (low top past x : ℕ) → low ≤ top → top ≤ past → (nat_le low x && nat_lt x past) ≡
    (nat_le low x && nat_lt x top || nat_le top x && nat_lt x past)
in_both low top past x h k = grind (arith, nat_tests)

one_of_both : (first second : Bool) (other : Option ℕ) → (if first || second then Some 0 else other) ≡
    (if first then Some 0 else if second then Some 0 else other)
one_of_both true second other = refl
one_of_both false second other = refl

zone_zeros : (heap : Bool) (c a : ℕ) (regions : List Region) (all : List Filled) →
    zeros regions a ≡ zeros (regions_of all) a →
    zeros (zone_regions heap c ++ regions) a ≡ zeros (regions_of (zone_if heap c ++ all)) a
zone_zeros true c a regions all same = ap (λ o. if is_in (zone c).region a then Some 0 else o) same
zone_zeros false c a regions all same = same

store_zeros : (comps : List CompPart) (c a : ℕ) →
    zeros (store_regions c comps) a ≡ zeros (regions_of (all_data c comps)) a
store_zeros [] c a = refl
store_zeros (comp ∷ comps) c a =
    let past = data_start c + (stack_size + length comp.globals) in
    let same : past ≡ stack_top c + length comp.globals = omega arith in
    ap (λ t. if t then Some 0 else zeros (zone_regions comp.heap c ++ store_regions (suc c) comps) a)
    (in_both (data_start c) (stack_top c) past a (omega arith) (omega arith)) ∙
    one_of_both (nat_le (data_start c) a && nat_lt a (stack_top c)) (nat_le (stack_top c) a && nat_lt a past) _ ∙
    ap (λ end. if nat_le (data_start c) a && nat_lt a (stack_top c) then Some 0
    else if nat_le (stack_top c) a && nat_lt a end then Some 0
    else zeros (zone_regions comp.heap c ++ store_regions (suc c) comps) a) same ∙
    ap (λ o. if is_in (stack comp c).region a then Some 0 else if is_in (globals comp c).region a then Some 0 else o)
    (zone_zeros comp.heap c a _ _ (store_zeros comps (suc c) a))

pub zeros_are : (comps : List CompPart) →
    ◌≡◌ {A = ByteMemory} (zeros (store_regions 0 comps)) (zeros (regions_of (all_data 0 comps)))
zeros_are comps = λ i a. store_zeros comps 0 a i

store_more : (comps : List CompPart) (c i n : ℕ) (comp : CompPart) → n ≡ c + i → slice_get comps i ≡ Some comp →
    store_regions c (take (suc i) comps) ≡ store_regions c (take i comps) ++ own_regions n comp.globals comp.heap
store_more [] c i n comp place is = let never = is in cc never
store_more (x ∷ xs) c zero n comp place is =
    let first : c ≡ n = omega arith in
    let same : x ≡ comp = cc is in
    append-nil _ ∙ ap₂ (λ k (y : CompPart). own_regions k y.globals y.heap) first same
store_more (x ∷ xs) c (suc i) n comp place is =
    ap (λ rest. own_regions c x.globals x.heap ++ rest) (store_more xs (suc c) i n comp (omega arith) is) ∙
    sym (append_assoc (own_regions c x.globals x.heap) _ _)

-- one stack more
pub tops_more : (comps : List CompPart) (c i n : ℕ) → n ≡ c + i → i < length comps →
    stack_tops c (take (suc i) comps) ≡ stack_tops c (take i comps) ++ stack_top n ∷ []
tops_more [] c i n place h = absurd (omega arith)
tops_more (x ∷ xs) c zero n place h = let first : c ≡ n = omega arith in ap (λ k. stack_top k ∷ []) first
tops_more (x ∷ xs) c (suc i) n place h =
    ap (λ rest. stack_top c ∷ rest) (tops_more xs _ i n (omega arith) (omega arith))

-- A memory of zeros with the bytes that regions begin with.

abbrev AreWithin : List Filled → Type 0
AreWithin [] = Unit {0}
AreWithin (filled ∷ others) = (length filled.bytes ≤ filled.region.bytes) × AreWithin others

written-inner : (m m' : ByteMemory) (s : ℕ) (bs : List ℕ) (a : ℕ) → m' a ≡ m a → written m' s bs a ≡ written m s bs a
written-inner m m' s bs a same =
    ap (λ o. if nat_le s a && nat_lt a (s + length bs) then Some (slice_index bs (a - s)) else o) same

filled-inner : (all : List Filled) (m m' : ByteMemory) (a : ℕ) → m' a ≡ m a → filled_with all m' a ≡ filled_with all m a
filled-inner [] m m' a same = same
filled-inner (filled ∷ others) m m' a same = filled-inner others _ _ a (written-inner m m' _ _ a same)

kept_below : (all : List Filled) (m : ByteMemory) (low a : ℕ) → Ordered low (regions_of all) → AreWithin all → a < low →
    filled_with all m a ≡ m a
kept_below [] m low a order within under = refl
kept_below (filled ∷ others) m low a order within under = kept_below others _ _ a order.1 within.1
    (omega (arith, order.0, under)) ∙ written-apart m _ _ a (λ from upto. omega (arith, order.0, under, from))

module _ (filled : Filled) (others : List Filled) (within : length filled.bytes ≤ filled.region.bytes) (a : ℕ) where
  abbrev zero_there : ByteMemory
  zero_there = zeros (regions_of (filled ∷ others))

  abbrev IsHere : ByteMemory → Type 0
  IsHere memory = memory a ≡ Some (slice_index filled.bytes (a - filled.region.start))

  past_bytes : IsIn filled.region a → filled.region.start + length filled.bytes ≤ a →
      IsHere (written zero_there filled.region.start filled.bytes)
  past_bytes inside past =
      let none : get_or filled.bytes _ 0 ≡ 0 =
      get_or_past filled.bytes (a - filled.region.start) 0 (omega (arith, past)) in
      written-apart zero_there filled.region.start _ a (λ from upto. omega (arith, past, upto)) ∙
      rw (in_true filled.region a inside, none) refl

  in_first : IsIn filled.region a → IsHere (written zero_there filled.region.start filled.bytes)
  in_first inside = ⊎_elim (λ high. written-in zero_there _ _ a inside.0 high) (past_bytes inside) (cases_lt a _)

  past_first : (IsIn filled.region a → ⊥) →
      written zero_there filled.region.start filled.bytes a ≡ zeros (regions_of others) a
  past_first outside = written-apart zero_there _ filled.bytes a
      (λ from upto. outside (from, omega (arith, upto, within))) ∙ rw (in_false filled.region a outside) refl

filled_is : (all : List Filled) (low a : ℕ) → Ordered low (regions_of all) → AreWithin all →
    filled_with all (zeros (regions_of all)) a ≡ byte_at all a
filled_is [] low a order within = refl
filled_is (filled ∷ others) low a order within = ⊎_elim (λ inside. kept_below others _ _ a order.1 within.1 inside.1 ∙
    in_first filled others within.0 a inside ∙ sym (rw (in_true _ a inside) refl)) (λ outside.
    filled-inner others _ _ a (past_first filled others within.0 a outside) ∙ filled_is others _ a order.1 within.1 ∙
    sym (rw (in_false _ a outside) refl)) (in_cases _ a)

-- So far of the compartments: one more of them.

-- its data after those of the compartments before it
data_more : (comps : List CompPart) (c i n : ℕ) (comp : CompPart) → n ≡ c + i → slice_get comps i ≡ Some comp →
    all_data c (take (suc i) comps) ≡ all_data c (take i comps) ++ data_with n comp.globals comp.heap
data_more [] c i n comp place is = let never = is in cc never
data_more (x ∷ xs) c zero n comp place is =
    let first : c ≡ n = omega arith in
    let same : x ≡ comp = cc is in
    append-nil _ ∙ ap₂ (λ k (y : CompPart). data_with k y.globals y.heap) first same
data_more (x ∷ xs) c (suc i) n comp place is =
    ap (λ rest. data_with c x.globals x.heap ++ rest) (data_more xs (suc c) i n comp (omega arith) is) ∙
    sym (append_assoc (data_with c x.globals x.heap) _ _)

-- what is put of it: its globals
own_filled : (heap : Bool) (c : ℕ) (bytes : List ℕ) (m : ByteMemory) →
    filled_with (data_with c bytes heap) m ≡ written m (stack_top c) bytes
own_filled true c bytes m = written_nothing _ (zone_start c) ∙
    ap (λ before. written before (stack_top c) bytes) (written_nothing m (data_start c))
own_filled false c bytes m = ap (λ before. written before (stack_top c) bytes) (written_nothing m (data_start c))

filled_with_both : (all others : List Filled) (m : ByteMemory) →
    filled_with (all ++ others) m ≡ filled_with others (filled_with all m)
filled_with_both [] others m = refl
filled_with_both (filled ∷ all) others m = filled_with_both all others _

-- there is memory for them
some_by : (test : Bool) (x : ℕ) (o : Option ℕ) → IsSome o → IsSome (if test then Some x else o)
some_by true x o h = refl
some_by false x o h = h

some_kept : (all : List Filled) (m : ByteMemory) (a : ℕ) → IsSome (m a) → IsSome (filled_with all m a)
some_kept [] m a h = h
some_kept (filled ∷ others) m a h = some_kept others _ a (some_by _ _ (m a) h)

zeros_after : (all others : List Filled) (a : ℕ) → IsSome (zeros (regions_of others) a) →
    IsSome (zeros (regions_of (all ++ others)) a)
zeros_after [] others a h = h
zeros_after (filled ∷ all) others a h = some_by (is_in filled.region a) 0 _ (zeros_after all others a h)

zero_is : (comps : List CompPart) (c i n a : ℕ) (comp : CompPart) → n ≡ c + i → slice_get comps i ≡ Some comp →
    stack_top n ≤ a → a < stack_top n + length comp.globals → IsSome (zeros (regions_of (all_data c comps)) a)
zero_is [] c i n a comp place is low high = let never : ◌≡◌ {A = Option CompPart} None (Some comp) = is in cc never
zero_is (x ∷ xs) c zero n a comp place is low high =
    let first : c ≡ n = omega arith in
    let same : x ≡ comp = cc is in
    let inside : is_in (globals x c).region a ≡ true =
    rw (first, same) (in_true (globals comp n).region a (low, high)) in
    some_by (is_in (stack x c).region a) 0 _ (rw inside refl)
zero_is (x ∷ xs) c (suc i) n a comp place is low high =
    zeros_after (data_with c x.globals x.heap) (all_data (suc c) xs) a
    (zero_is xs (suc c) i n a comp (omega arith) is low high)

globals_there : (comps : List CompPart) (i k : ℕ) (comp : CompPart) → slice_get comps i ≡ Some comp →
    HasBytes (filled_with (all_data 0 (take k comps)) (zeros (regions_of (all_data 0 comps)))) (stack_top i)
    (length comp.globals)
globals_there comps i k comp is = λ j below. some_kept (all_data 0 (take k comps)) (zeros _) (stack_top i + j)
    (zero_is comps 0 i i _ comp (omega arith) is (omega arith) (omega (arith, below)))

-- the steps of the loops that make them
item_there : (comps : List CompPart) (i : ℕ) (comp : CompPart) → i < length comps → comp ≡ get_or comps i comp →
    slice_get comps i ≡ Some comp
item_there comps i comp h is = slice_get-get_or comps i comp h ∙ ap Some (sym is)

pub next_regions : (comps : List CompPart) (i : ℕ) (comp : CompPart) (regions : List Region) → i < length comps →
    comp ≡ get_or comps i comp → regions ≡ store_regions 0 (take i comps) →
    regions ++ own_regions i comp.globals comp.heap ≡ store_regions 0 (take (i + 1) comps)
next_regions comps i comp regions h item so_far =
    let more : i + 1 ≡ suc i = omega arith in
    rw (so_far, more) (sym (store_more comps 0 i i comp (omega arith) (item_there comps i comp h item)))

pub next_top : (comps : List CompPart) (i : ℕ) (tops : List ℕ) (top : ℕ) → i < length comps →
    tops ≡ stack_tops 0 (take i comps) → top ≡ stack_top i → tops ++ top ∷ [] ≡ stack_tops 0 (take (i + 1) comps)
next_top comps i tops top h so_far is =
    let more : i + 1 ≡ suc i = omega arith in
    rw (so_far, is, more) (sym (tops_more comps 0 i i (omega arith) h))

module _ (comps : List CompPart) (i : ℕ) (comp : CompPart) (h : i < length comps) (item : comp ≡ get_or comps i comp)
    (first now : ByteMemory) (top : ℕ) (bytes : List ℕ) (so_far : now ≡ filled_with (all_data 0 (take i comps)) first)
    (at : top ≡ stack_top i) (are : bytes ≡ comp.globals) where
  pub place_there : first ≡ zeros (regions_of (all_data 0 comps)) → HasBytes now top (length bytes)
  place_there zeroed = rw (so_far, zeroed, at, are) (globals_there comps i i comp (item_there comps i comp h item))

  pub next_filled : (next : ByteMemory) → next ≡ written now top bytes →
      next ≡ filled_with (all_data 0 (take (i + 1) comps)) first
  next_filled next is =
      let more : i + 1 ≡ suc i = omega arith in
      is ∙ rw (so_far, at, are, more) (sym (ap (λ all. filled_with all first)
      (data_more comps 0 i i comp (omega arith) (item_there comps i comp h item)) ∙
      filled_with_both (all_data 0 (take i comps)) _ first ∙
      own_filled comp.heap i comp.globals _))

-- All together are the memory of the start.

zone_within : (heap : Bool) (c : ℕ) (rest : List Filled) → AreWithin rest → AreWithin (zone_if heap c ++ rest)
zone_within true c rest within = (omega arith, within)
zone_within false c rest within = within

within_all : (comps : List CompPart) (c : ℕ) → AreWithin (all_data c comps)
within_all [] c = tt
within_all (comp ∷ comps) c =
    (omega arith, (omega arith, zone_within comp.heap c (all_data (suc c) comps) (within_all comps (suc c))))

-- an address that isn't in a compartment's stretch
below_none : (heap : Bool) (c a : ℕ) (bytes : List ℕ) → a < data_start c → byte_at (data_with c bytes heap) a ≡ None
below_none true c a bytes low =
    rw (
      lt-leb (data_start c) a low,
      lt-leb (stack_top c) a (omega (arith, low)),
      lt-leb (zone_start c) a (omega (arith, low)),
    ) refl
below_none false c a bytes low = rw (lt-leb (data_start c) a low, lt-leb (stack_top c) a (omega (arith, low))) refl

past_none : (heap : Bool) (c a : ℕ) (bytes : List ℕ) → length bytes ≤ most_globals → data_start c + stretch ≤ a →
    byte_at (data_with c bytes heap) a ≡ None
past_none true c a bytes few past =
    rw (
      in_false (record { start = data_start c; bytes = stack_size }) a (λ inside. omega (arith, inside.1, past)),
      in_false (record { start = stack_top c; bytes = length bytes }) a (λ inside. omega (arith, inside.1, past, few)),
      in_false (record { start = zone_start c; bytes = zone_size }) a (λ inside. omega (arith, inside.1, past)),
    ) refl
past_none false c a bytes few past =
    rw (
      in_false (record { start = data_start c; bytes = stack_size }) a (λ inside. omega (arith, inside.1, past)),
      in_false (record { start = stack_top c; bytes = length bytes }) a (λ inside. omega (arith, inside.1, past, few)),
    ) refl

byte_before : (all others : List Filled) (a : ℕ) → byte_at others a ≡ None → byte_at (all ++ others) a ≡ byte_at all a
byte_before [] others a none = none
byte_before (filled ∷ all) others a none = ap (λ rest. if is_in filled.region a then Some
    (slice_index filled.bytes (a - filled.region.start)) else rest) (byte_before all others a none)

byte_after : (all others : List Filled) (a : ℕ) → byte_at all a ≡ None → byte_at (all ++ others) a ≡ byte_at others a
byte_after [] others a none = refl
byte_after (filled ∷ all) others a none = by (is_in filled.region a) none (byte_after all others a) where
  by : (inside : Bool) →
      (if inside then Some (slice_index filled.bytes (a - filled.region.start)) else byte_at all a) ≡ None →
      (byte_at all a ≡ None → byte_at (all ++ others) a ≡ byte_at others a) →
      (if inside then Some (slice_index filled.bytes (a - filled.region.start)) else byte_at (all ++ others) a) ≡
      byte_at others a
  by true empty rest = let never = empty in cc never
  by false empty rest = rest empty

none_below : (comps : List CompPart) (c a : ℕ) → a < data_start c → byte_at (all_data c comps) a ≡ None
none_below [] c a under = refl
none_below (comp ∷ comps) c a under =
    byte_after (data_with c comp.globals comp.heap) (all_data (suc c) comps) a
    (below_none comp.heap c a comp.globals under) ∙ none_below comps (suc c) a (omega (arith, under))

at_comp : (comps : List CompPart) (c i n a : ℕ) → All HasFewGlobals comps → n ≡ c + i → data_start n ≤ a →
    a < data_start n + stretch → byte_at (all_data c comps) a ≡ option_and_then
    (λ (comp : CompPart). byte_at (data_with n comp.globals comp.heap) a) (slice_get comps i)
at_comp [] c i n a few place from upto = refl
at_comp (comp ∷ comps) c zero n a few place from upto =
    let first : c ≡ n = omega arith in
    byte_before (data_with c comp.globals comp.heap) (all_data (suc c) comps) a
    (none_below comps (suc c) a (omega (arith, first, upto))) ∙
    ap (λ k. byte_at (data_with k comp.globals comp.heap) a) first
at_comp (comp ∷ comps) c (suc i) n a few place from upto =
    byte_after (data_with c comp.globals comp.heap) (all_data (suc c) comps) a
    (past_none comp.heap c a comp.globals (All-head HasFewGlobals comp comps few) (omega (arith, place, from))) ∙
    at_comp comps (suc c) i n a (All-tail HasFewGlobals comp comps few) (omega (arith, place)) from upto

start_below : (c a : ℕ) (found : Option CompPart) → a < data_start 0 →
    option_and_then (λ (comp : CompPart). byte_at (data_with c comp.globals comp.heap) a) found ≡ None
start_below c a None low = refl
start_below c a (Some comp) low = below_none comp.heap c a comp.globals (omega (arith, low))

all_is : (image : ImageParts) (a : ℕ) → All HasFewGlobals image.comps →
    byte_at (all_data 0 image.comps) a ≡ start_memory image a
unfolding start_memory
all_is image a few = ⊎_elim (λ low. none_below image.comps 0 a low ∙
    sym (start_below (comp_of_data a) a (slice_get image.comps (comp_of_data a)) low))
    (λ from. at_comp _ 0 _ _ a few (omega arith) (omega (arith, from)) (omega (arith, from))) (cases_lt a _)

pub starts : (image : ImageParts) → IsWellFormed image →
    filled_with (all_data 0 image.comps) (zeros (regions_of (all_data 0 image.comps))) ≡ start_memory image
starts image formed = λ i a. (filled_is _ 0 a (ordered _ 0 0 (all_few image formed) (omega arith)) (within_all _ 0) ∙
    all_is image a (all_few image formed)) i
