-- The blocks that live, by rising numbers: which is found at a number, by search, and what changes leave there.
use Rattle.sc_blocks.proofs.Common.{Bool, IsRising, List, None, Slot, Some, [], add-one, ap, arith, slot_among}
use Rattle.sc_blocks.proofs.Common.{eqb-false, false, get_or, if◌then◌else◌, le-ltb, length, ltb-false, ltb-true}
use Rattle.sc_blocks.proofs.Common.{nat_lt, ne_eqb, refl, searchable_from_sorted, slice_set, subst, suc, sym, true}
use Rattle.sc_blocks.proofs.Common.{Option, cases_lt, inl, inr, zero, ℕ, ◌++◌, ◌<◌, ◌==◌, ◌∙◌, ◌∷◌, ◌≡◌, ◌≤◌}
use Rattle.std.specs.List.{remove}
use Rattle.std.proofs.lemmas.Bool.{cases_eq}
use Rattle.std.proofs.lemmas.Option.{same_Some}
use Rattle.std.specs.List.Sorted.{IsNonDecreasingBy, IsPartitionPoint, IsSortedBy}
use Rattle.std.specs.Ordering.{is_lt, nat_cmp, ordering_index}
use Rattle.std.specs.declared.cmp.Ordering.TheVariants.{Less, Equal, Greater}
use Rattle.std.proofs.lemmas.Cmp.{nat_cmp_total, ranked}

-- a list whose numbers rise from one on does so from any lower one
pub rising_down : (slots : List Slot) (from made low : ℕ) → IsRising from made slots → low ≤ from →
    IsRising low made slots
rising_down [] from made low up h = omega (arith, up, h)
rising_down (s ∷ slots) from made low up h = (omega (arith, up.0, h), up.1)

pub rising_to : (slots : List Slot) (from made : ℕ) → IsRising from made slots → from ≤ made
rising_to [] from made up = up
rising_to (s ∷ slots) from made up = omega (arith, up.0, rising_to slots _ made up.1)

-- each number is between the two
pub rising_at : (slots : List Slot) (from made place : ℕ) (slot : Slot) → IsRising from made slots →
    place < length slots → (from ≤ (get_or slots place slot).number) × ((get_or slots place slot).number < made)
rising_at [] from made place slot up h = absurd (omega (arith, h))
rising_at (s ∷ slots) from made zero slot up h = (up.0, rising_to slots _ made up.1)
rising_at (s ∷ slots) from made (suc place) slot up h =
    let later = rising_at slots _ made place slot up.1 (omega (arith, h)) in
    (omega (arith, up.0, later.0), later.1)

-- past a block of another number
pub skipped : (s : Slot) (slots : List Slot) (n : ℕ) → (s.number ≡ n → ⊥) →
    slot_among (s ∷ slots) n ≡ slot_among slots n
skipped s slots n other = ap (λ b. if b then Some s else slot_among slots n) (ne_eqb _ n other)

first_is : (s : Slot) (slots : List Slot) (b : Bool) → (s.number == s.number) ≡ b →
    (if b then Some s else slot_among slots s.number) ≡ Some s
first_is s slots true is = refl
first_is s slots false is = absurd (eqb-false _ _ is refl)

pub met : (s : Slot) (slots : List Slot) (n : ℕ) → s.number ≡ n → slot_among (s ∷ slots) n ≡ Some s
met s slots n is = subst (λ m. slot_among (s ∷ slots) m ≡ Some s) is (first_is s slots _ refl)

-- the block at a place is the one of its number
pub found_at : (slots : List Slot) (from made place : ℕ) (slot : Slot) (n : ℕ) → IsRising from made slots →
    place < length slots → slot ≡ get_or slots place slot → slot.number ≡ n → slot_among slots n ≡ Some slot
found_at [] from made place slot n up h is number = absurd (omega (arith, h))
found_at (s ∷ slots) from made zero slot n up h is number =
    met s slots n (ap (λ t. t.number) (sym is) ∙ number) ∙ ap Some (sym is)
found_at (s ∷ slots) from made (suc place) slot n up h is number =
    let later = rising_at slots _ made place slot up.1 (omega (arith, h)) in
    let here = ap (λ t. t.number) is in
    skipped s slots n (λ same. absurd (omega (arith, same, here, number, later.0)))
    ∙ found_at slots _ made place slot n up.1 (omega (arith, h)) is number

-- where no block has the number
pub none_found : (slots : List Slot) (n : ℕ) →
    ((k : ℕ) (d : Slot) → k < length slots → (get_or slots k d).number ≡ n → ⊥) → slot_among slots n ≡ None
none_found [] n others = refl
none_found (s ∷ slots) n others =
    skipped s slots n (others 0 s (omega arith)) ∙ none_found slots n (λ k d h. others (suc k) d (omega (arith, h)))

-- one block more
pub rising_push : (slots : List Slot) (from made : ℕ) (s : Slot) → IsRising from made slots → s.number ≡ made →
    IsRising from (suc made) (slots ++ s ∷ [])
rising_push [] from made s up is = (omega (arith, up, is), omega (arith, is))
rising_push (t ∷ slots) from made s up is = (up.0, rising_push slots _ made s up.1 is)

pub old_found : (slots : List Slot) (made : ℕ) (s : Slot) (n : ℕ) → s.number ≡ made → n < made →
    slot_among (slots ++ s ∷ []) n ≡ slot_among slots n
old_found [] made s n is h = skipped s [] n (λ same. absurd (omega (arith, same, is, h)))
old_found (t ∷ slots) made s n is h = ap (λ o. if t.number == n then Some t else o)
    (old_found slots made s n is h)

pub new_found : (slots : List Slot) (from made : ℕ) (s : Slot) → IsRising from made slots → s.number ≡ made →
    slot_among (slots ++ s ∷ []) made ≡ Some s
new_found [] from made s up is = met s [] made is
new_found (t ∷ slots) from made s up is = skipped t _ made
    (λ same. absurd (omega (arith, same, rising_to slots _ made up.1))) ∙ new_found slots _ made s up.1 is

-- another block of the same number at a place
pub rising_set : (slots : List Slot) (from made place : ℕ) (s d : Slot) → IsRising from made slots →
    s.number ≡ (get_or slots place d).number → IsRising from made (slice_set slots place s)
rising_set [] from made place s d up is = up
rising_set (t ∷ slots) from made zero s d up is =
    (omega (arith, up.0, is), subst (λ n. IsRising (suc n) made slots) (sym is) up.1)
rising_set (t ∷ slots) from made (suc place) s d up is = (up.0, rising_set slots _ made place s d up.1 is)

pub others_found : (slots : List Slot) (place : ℕ) (s d : Slot) (n : ℕ) → s.number ≡ (get_or slots place d).number →
    (n ≡ s.number → ⊥) → slot_among (slice_set slots place s) n ≡ slot_among slots n
others_found [] place s d n is other = refl
others_found (t ∷ slots) zero s d n is other =
    skipped s slots n (λ same. other (sym same)) ∙ sym (skipped t slots n (λ same. other (sym same ∙ sym is)))
others_found (t ∷ slots) (suc place) s d n is other =
    ap (λ o. if t.number == n then Some t else o) (others_found slots place s d n is other)

pub rises : (slots : List Slot) (from made k : ℕ) (d : Slot) → IsRising from made slots → suc k < length slots →
    (get_or slots k d).number < (get_or slots (suc k) d).number
rises [] from made k d up h = absurd (omega (arith, h))
rises (s ∷ slots) from made zero d up h = (rising_at slots _ made 0 d up.1 (omega (arith, h))).0
rises (s ∷ slots) from made (suc k) d up h = rises slots _ made k d up.1 (omega (arith, h))

not_below : (x y : ℕ) → y ≤ x → is_lt (nat_cmp x y) ≡ false
not_below x y h = rw (le-ltb x y h) (rest _) where
  rest : (b : Bool) → is_lt (if b then Equal else Greater) ≡ false
  rest true = refl
  rest false = refl

sorted : (slots : List Slot) (from made : ℕ) → IsRising from made slots →
    IsSortedBy (λ a b. is_lt (nat_cmp a.number b.number)) slots
sorted slots from made up k d low high =
    let next : suc k < length slots = omega (arith, high) in
    let up_one = rises slots from made k d up next in
    not_below (get_or slots _ d).number (get_or slots k d).number (rw add-one (omega (arith, up_one)))

-- where a search ended: lower numbers before it, higher ones from there on
pub parted_at : (slots : List Slot) (from made n place : ℕ) → IsRising from made slots →
    (IsNonDecreasingBy (λ (slot : Slot). ordering_index (nat_cmp slot.number n)) slots →
    IsPartitionPoint (λ (slot : Slot). nat_cmp slot.number n ≡ Less) (λ (slot : Slot). nat_cmp slot.number n ≡ Greater)
    slots place) →
    ((k : ℕ) (d : Slot) → k < place → k < length slots → (get_or slots k d).number < n) ×
    ((k : ℕ) (d : Slot) → place ≤ k → k < length slots → n < (get_or slots k d).number)
parted_at slots from made n place up parted = (
  λ k d low within. ranked (get_or slots k d).number n Less (sym (parts.0 k d (omega arith) low)),
  λ k d high within. ranked (get_or slots k d).number n Greater (sym (parts.1 k d high within)),
) where
  parts : IsPartitionPoint (λ (slot : Slot). nat_cmp slot.number n ≡ Less)
      (λ (slot : Slot). nat_cmp slot.number n ≡ Greater) slots place
  parts = parted (searchable_from_sorted nat_cmp_total (λ (slot : Slot). slot.number) slots n
      (sorted slots from made up))

-- where a search ended between lower and higher numbers
pub between : (slots : List Slot) (from made n place : ℕ) → IsRising from made slots →
    (IsNonDecreasingBy (λ (slot : Slot). ordering_index (nat_cmp slot.number n)) slots →
    IsPartitionPoint (λ (slot : Slot). nat_cmp slot.number n ≡ Less) (λ (slot : Slot). nat_cmp slot.number n ≡ Greater)
    slots place) → slot_among slots n ≡ None
between slots from made n place up parted =
    none_found slots n (λ k d h same. by_test k d h same (nat_lt k place) refl) where
      parts : IsPartitionPoint (λ (slot : Slot). nat_cmp slot.number n ≡ Less)
          (λ (slot : Slot). nat_cmp slot.number n ≡ Greater) slots place
      parts = parted (searchable_from_sorted nat_cmp_total (λ (slot : Slot). slot.number) slots n
          (sorted slots from made up))

      by_test : (k : ℕ) (d : Slot) → k < length slots → (get_or slots k d).number ≡ n → (b : Bool) →
          nat_lt k place ≡ b → ⊥
      by_test k d h same true is =
          let less = ranked (get_or slots k d).number n Less (sym (parts.0 k d (omega arith) (ltb-true k place is))) in
          omega (arith, less, same)
      by_test k d h same false is =
          let more = ranked (get_or slots k d).number n Greater (sym (parts.1 k d (ltb-false k place is) h)) in
          omega (arith, more, same)

-- Which numbers are found.

-- more may be made later
pub rising_up : (slots : List Slot) (from made more : ℕ) → IsRising from made slots → made ≤ more →
    IsRising from more slots
rising_up [] from made more up h = omega (arith, up, h)
rising_up (s ∷ slots) from made more up h = (up.0, rising_up slots _ made more up.1 h)

-- the slot of a number has it, and the number is between the two
pub record IsAmong (slot : Slot) (from made n : ℕ) : Type 0 where
  pub number : slot.number ≡ n
  pub from_there : from ≤ n
  pub below : n < made

pub among_at : (slots : List Slot) (from made n : ℕ) (slot : Slot) → IsRising from made slots →
    slot_among slots n ≡ Some slot → IsAmong slot from made n
among_at [] from made n slot up found = let never : ◌≡◌ {A = Option Slot} None (Some slot) = found in cc never
among_at (s ∷ slots) from made n slot up found = elim (cases_eq s.number n) [
  | inl here ↦
      let same : s ≡ slot = same_Some s slot (sym (met s slots n here) ∙ found) in
      let last = rising_to slots _ made up.1 in
      record {
        number = ap (λ t. t.number) (sym same) ∙ here;
        from_there = omega (arith, up.0, here);
        below = omega (arith, last, here);
      }
  | inr other ↦
      let later = among_at slots _ made n slot up.1 (sym (skipped s slots n other) ∙ found) in
      record {
        number = later.number;
        from_there = omega (arith, up.0, later.from_there);
        below = later.below;
      }
]

-- none has a number from the last one on
pub none_past : (slots : List Slot) (from made n : ℕ) → IsRising from made slots → made ≤ n →
    slot_among slots n ≡ None
none_past slots from made n up past = by (slot_among slots n) refl where
  by : (found : Option Slot) → slot_among slots n ≡ found → slot_among slots n ≡ None
  by None is = is
  by (Some slot) is = absurd (omega (arith, past, (among_at slots from made n slot up is).below))

-- none has a number before the first one
pub none_before : (slots : List Slot) (from made n : ℕ) → IsRising from made slots → n < from →
    slot_among slots n ≡ None
none_before slots from made n up before = by (slot_among slots n) refl where
  by : (found : Option Slot) → slot_among slots n ≡ found → slot_among slots n ≡ None
  by None is = is
  by (Some slot) is = absurd (omega (arith, before, (among_at slots from made n slot up is).from_there))

-- A slot that is taken out.

pub rising_remove : (slots : List Slot) (from made at : ℕ) → IsRising from made slots →
    IsRising from made (remove slots at)
rising_remove [] from made zero up = up
rising_remove [] from made (suc at) up = up
rising_remove (s ∷ slots) from made zero up = rising_down slots _ made from up.1 (omega (arith, up.0))
rising_remove (s ∷ slots) from made (suc at) up = (up.0, rising_remove slots _ made at up.1)

pub removed_found : (slots : List Slot) (from made at n : ℕ) (d : Slot) → IsRising from made slots →
    at < length slots → (get_or slots at d).number ≡ n → slot_among (remove slots at) n ≡ None
removed_found [] from made at n d up within is = absurd (omega (arith, within))
removed_found (s ∷ slots) from made zero n d up within is = none_before slots _ made n up.1 (omega (arith, is))
removed_found (s ∷ slots) from made (suc at) n d up within is =
    let later = rising_at slots _ made at d up.1 (omega (arith, within)) in
    skipped s (remove slots at) n (λ same. absurd (omega (arith, same, later.0, is))) ∙
    removed_found slots _ made at n d up.1 (omega (arith, within)) is

pub kept_found : (slots : List Slot) (at n : ℕ) (d : Slot) → at < length slots →
    ((get_or slots at d).number ≡ n → ⊥) → slot_among (remove slots at) n ≡ slot_among slots n
kept_found [] at n d within other = absurd (omega (arith, within))
kept_found (s ∷ slots) zero n d within other = sym (skipped s slots n other)
kept_found (s ∷ slots) (suc at) n d within other =
    ap (λ o. if s.number == n then Some s else o) (kept_found slots at n d (omega (arith, within)) other)
