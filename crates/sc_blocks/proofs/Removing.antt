-- Blocks of a row that end, among those that live.
use Rattle.sc_blocks.proofs.Common.{AreApart, IsRising, List, None, Slot, Some, [], ap, arith, cases_lt, slot_among}
use Rattle.sc_blocks.proofs.Common.{cleared}
use Rattle.sc_blocks.proofs.Common.{count_below, get_or, if◌then◌else◌, inl, inr, laid_out, le-ltb, length, lt-ltb}
use Rattle.sc_blocks.proofs.Common.{refl, remove_range, subst, suc, sym, without, zero, ℕ, ◌+◌, ◌<◌, ◌==◌, ◌∙◌, ◌∷◌}
use Rattle.sc_blocks.proofs.Common.{◌≡◌, ◌≤◌}
use Rattle.sc_blocks.proofs.Common.{allocated_or_ended, block_at, variable_or, ◌⊎◌}
use Rattle.sc_blocks.proofs.Laying.{cleared_laid, given_at}
use Rattle.sc_blocks.proofs.Living.{rises, rising_at, rising_down, skipped}

below : (number : ℕ) (s : Slot) (slots : List Slot) → s.number < number →
    count_below number (s ∷ slots) ≡ suc (count_below number slots)
below number s slots h = rw (lt-ltb _ number h) refl

not_below : (number : ℕ) (s : Slot) (slots : List Slot) → number ≤ s.number → count_below number (s ∷ slots) ≡ 0
not_below number s slots h = rw (le-ltb _ number h) refl

pub few_below : (slots : List Slot) (number : ℕ) → count_below number slots ≤ length slots
few_below [] number = omega arith
few_below (s ∷ slots) number = elim (cases_lt _ number) [
  | inl low ↦ omega (arith, below number s slots low, few_below slots number)
  | inr high ↦ omega (arith, not_below number s slots high)
]

-- one that isn't lower comes after those that are
pub at_most : (slots : List Slot) (number place : ℕ) (d : Slot) → place < length slots →
    number ≤ (get_or slots place d).number → count_below number slots ≤ place
at_most [] number place d h high = omega (arith, h)
at_most (s ∷ slots) number zero d h high = omega (arith, not_below number s slots high)
at_most (s ∷ slots) number (suc place) d h high = elim (cases_lt _ number) [
  | inl low ↦ omega (arith, below number s slots low, at_most slots number place d (omega (arith, h)) high)
  | inr same ↦ omega (arith, not_below number s slots same)
]

-- one that is lower is among those, as are all before it
pub at_least : (slots : List Slot) (from made number place : ℕ) (d : Slot) → IsRising from made slots →
    place < length slots → (get_or slots place d).number < number → place < count_below number slots
at_least [] from made number place d up h low = absurd (omega (arith, h))
at_least (s ∷ slots) from made number zero d up h low = omega (arith, below number s slots low)
at_least (s ∷ slots) from made number (suc place) d up h low =
    let later = rising_at slots _ made place d up.1 (omega (arith, h)) in
    omega (
      arith,
      below number s slots (omega (arith, later.0, low)),
      at_least slots _ made number place d up.1 (omega (arith, h)) low,
    )

-- the place of a number, or where it would be, says how many are lower
placed_at : (slots : List Slot) (from made number place : ℕ) → IsRising from made slots → place ≤ length slots →
    ((d : Slot) → place < length slots → number ≤ (get_or slots place d).number) →
    ((k : ℕ) (d : Slot) → place ≡ suc k → (get_or slots k d).number < number) → place ≡ count_below number slots
placed_at [] from made number place up within high low = omega (arith, within)
placed_at (s ∷ slots) from made number zero up within high low =
    omega (arith, at_most (s ∷ slots) number 0 s (omega arith) (high s (omega arith)))
placed_at (s ∷ slots) from made number (suc k) up within high low =
    let more = at_least (s ∷ slots) from made number k s up (omega (arith, within)) (low k s refl) in
    elim (cases_lt (suc k) (length (s ∷ slots))) [
      | inl h ↦ omega (arith, more, at_most (s ∷ slots) number (suc k) s h (high s h))
      | inr h ↦ omega (arith, more, h, within, few_below (s ∷ slots) number)
    ]

pub below_met : (slots : List Slot) (from made number place : ℕ) → IsRising from made slots → place < length slots →
    ((d : Slot) → (get_or slots place d).number ≡ number) → place ≡ count_below number slots
below_met slots from made number place up within met = placed_at slots from made number place up (omega (arith, within))
    (λ d h. omega (arith, met d))
    (λ k d is. (let lower = rises slots from made k d up (omega (arith, within, is)) in
    let same : (get_or slots (suc k) d).number ≡ number =
    ap (λ j. (get_or slots j d).number) (sym is) ∙ met d in omega (arith, lower, same)))

pub below_missed : (slots : List Slot) (from made number place : ℕ) → IsRising from made slots →
    place ≤ length slots → ((k : ℕ) (d : Slot) → k < place → k < length slots → (get_or slots k d).number < number) ×
    ((k : ℕ) (d : Slot) → place ≤ k → k < length slots → number < (get_or slots k d).number) →
    place ≡ count_below number slots
below_missed slots from made number place up within parts = placed_at slots from made number place up within
    (λ d h. omega (arith, parts.1 place d (omega arith) h))
    (λ k d is. parts.0 k d (omega (arith, is)) (omega (arith, is, within)))

pub below_order : (slots : List Slot) (first end : ℕ) → first ≤ end → count_below first slots ≤ count_below end slots
below_order [] first end h = omega arith
below_order (s ∷ slots) first end h = elim (cases_lt _ first) [
  | inl low ↦ omega (
    arith,
    below first s slots low,
    below end s slots (omega (arith, low, h)),
    below_order slots first end h,
  )
  | inr high ↦ omega (arith, not_below first s slots high)
]

none_below : (slots : List Slot) (from made number : ℕ) → IsRising from made slots → number ≤ from →
    count_below number slots ≡ 0
none_below [] from made number up h = refl
none_below (s ∷ slots) from made number up h = not_below number s slots (omega (arith, h, up.0))

-- where a first block is: before those that end, among them, or after
data Turn (first end : ℕ) (s : Slot) (slots : List Slot) : Type 0 where
  is_before : s.number < first → without first end (s ∷ slots) ≡ s ∷ without first end slots → Turn first end s slots
  is_among : first ≤ s.number → s.number < end → without first end (s ∷ slots) ≡ without first end slots →
      Turn first end s slots
  is_after : first ≤ s.number → end ≤ s.number → without first end (s ∷ slots) ≡ s ∷ without first end slots →
      Turn first end s slots

turn : (first end : ℕ) (s : Slot) (slots : List Slot) → Turn first end s slots
turn first end s slots = elim (cases_lt s.number first) [
  | inl h ↦ is_before h (rw (lt-ltb _ first h) refl)
  | inr h ↦ elim (cases_lt s.number end) [
    | inl k ↦ is_among h k (rw (le-ltb _ first h) (rw (lt-ltb _ end k) refl))
    | inr k ↦ is_after h k (rw (le-ltb _ first h) (rw (le-ltb _ end k) refl))
  ]
]

-- what is taken out by place is what ends by number
pub removed : (slots : List Slot) (from made first end : ℕ) → first ≤ end → IsRising from made slots →
    remove_range slots (count_below first slots) (count_below end slots) ≡ without first end slots
removed [] from made first end order up = refl
removed (s ∷ slots) from made first end order up =
    let later = removed slots (suc _) made first end order up.1 in
    let b = count_below end slots in
    elim (turn first end s slots) [
      | is_before h is ↦
          (λ i. remove_range (s ∷ slots) (below first s slots h i) (below end s slots (omega (arith, h, order)) i))
          ∙ ap (λ ts. s ∷ ts) later ∙ sym is
      | is_among h k is ↦
          let none = none_below slots _ made first up.1 (omega (arith, h)) in
          (λ i. remove_range (s ∷ slots) (not_below first s slots h i) (below end s slots k i))
          ∙ sym (ap (λ n. remove_range slots n b) none) ∙ later ∙ sym is
      | is_after h k is ↦
          let none = none_below slots _ made first up.1 (omega (arith, h)) in
          let none_too = none_below slots _ made end up.1 (omega (arith, k)) in
          (λ i. remove_range (s ∷ slots) (not_below first s slots h i) (not_below end s slots k i))
          ∙ ap (λ ts. s ∷ ts) (sym (λ i. remove_range slots (none i) (none_too i)) ∙ later) ∙ sym is
    ]

pub rising_without : (slots : List Slot) (from made first end : ℕ) → IsRising from made slots →
    IsRising from made (without first end slots)
rising_without [] from made first end up = up
rising_without (s ∷ slots) from made first end up =
    let later = rising_without slots _ made first end up.1 in
    elim (turn first end s slots) [
      | is_before h is ↦ rw is (up.0, later)
      | is_among h k is ↦ rw is (rising_down _ _ made from later (omega (arith, up.0)))
      | is_after h k is ↦ rw is (up.0, later)
    ]

-- no block that ends is found
pub ended_found : (slots : List Slot) (first end n : ℕ) → first ≤ n → n < end →
    slot_among (without first end slots) n ≡ None
ended_found [] first end n lower within = refl
ended_found (s ∷ slots) first end n lower within =
    let later = ended_found slots first end n lower within in
    let other : (s.number ≡ n → ⊥) → slot_among (s ∷ without first end slots) n ≡ None =
    λ h. skipped s _ n h ∙ later in
    elim (turn first end s slots) [
      | is_before h is ↦ rw is (other (λ same. omega (arith, same, h, lower)))
      | is_among h k is ↦ rw is later
      | is_after h k is ↦ rw is (other (λ same. omega (arith, same, k, within)))
    ]

outsider : (n k first end : ℕ) → n < first ⊎ end ≤ n → first ≤ k → k < end → k ≡ n → ⊥
outsider n k first end (inl low) h here same = omega (arith, low, h, same)
outsider n k first end (inr high) h here same = omega (arith, high, here, same)

-- the others are found as before
pub rest_found : (slots : List Slot) (first end n : ℕ) → n < first ⊎ end ≤ n →
    slot_among (without first end slots) n ≡ slot_among slots n
rest_found [] first end n outside = refl
rest_found (s ∷ slots) first end n outside =
    let later = rest_found slots first end n outside in
    let kept = ap (λ o. if s.number == n then Some s else o) later in
    elim (turn first end s slots) [
      | is_before h is ↦ rw is kept
      | is_among h k is ↦ rw is (later ∙ sym (skipped s slots n (λ same. outsider n _ first end outside h k same)))
      | is_after h k is ↦ rw is kept
    ]

-- a count that was taken of these slots
pub counted : (slots seen : List Slot) (from made number count : ℕ) → IsRising from made slots → seen ≡ slots →
    ((from made : ℕ) → IsRising from made seen → count ≡ count_below number seen) → count ≡ count_below number slots
counted slots seen from made number count up same is =
    subst (λ ss. count ≡ count_below number ss) same (is from made (subst (λ ss. IsRising from made ss) (sym same) up))

-- those that are left once they are taken out
pub left_without : (slots after : List Slot) (from made low high first end : ℕ) → IsRising from made slots →
    first ≤ end → low ≡ count_below first slots → high ≡ count_below end slots →
    after ≡ remove_range slots low high → after ≡ without first end slots
left_without slots after from made low high first end up order low_is high_is is =
    is ∙ (λ i. remove_range slots (low_is i) (high_is i)) ∙ removed slots from made first end order up

pub apart_without : (slots heap : List Slot) (first end : ℕ) → AreApart slots heap →
    AreApart (without first end slots) (without first end heap)
apart_without slots heap first end apart n = elim (cases_lt n first) [
  | inl low ↦ by (inl low)
  | inr from ↦ elim (cases_lt n end) [
    | inl within ↦ inl (ended_found slots first end n from within)
    | inr high ↦ by (inr high)
  ]
] where
  by : n < first ⊎ end ≤ n → (slot_among (without first end slots) n ≡ None) ⊎
      (slot_among (without first end heap) n ≡ None)
  by outside = elim (apart n) [
    | inl none ↦ inl (rest_found slots first end n outside ∙ none)
    | inr none ↦ inr (rest_found heap first end n outside ∙ none)
  ]

pub kept_without : (slots later heap after : List Slot) (made first end : ℕ) → IsRising 0 made slots →
    IsRising 0 made heap → AreApart slots heap → later ≡ without first end slots → after ≡ without first end heap →
    IsRising 0 made later × IsRising 0 made after × AreApart later after
kept_without slots later heap after made first end up heap_up apart is gone = (
  subst (λ ss. IsRising 0 made ss) (sym is) (rising_without slots 0 made first end up),
  subst (λ ss. IsRising 0 made ss) (sym gone) (rising_without heap 0 made first end heap_up),
  subst (λ ss. AreApart ss after) (sym is)
      (subst (λ ss. AreApart (without first end slots) ss) (sym gone) (apart_without slots heap first end apart)),
)

-- a row once blocks have ended, by those that still live
pub row_without : (slots later heap after : List Slot) (made first count end : ℕ) →
    later ≡ without first end slots → after ≡ without first end heap →
    ((n : ℕ) → n < made → n < first + count → n < end) → end ≤ first + count →
    laid_out (block_at later after) made 0 ≡ cleared first count (laid_out (block_at slots heap) made 0)
row_without slots later heap after made first count end is gone far near =
    (λ i. laid_out (block_at (is i) (gone i)) made 0) ∙
    sym (cleared_laid (block_at slots heap) (block_at (without first end slots) (without first end heap))
    made first count 0 first (omega arith) (given_at slots heap)
    (λ n a b c d. (let within = far n (omega (arith, b)) d in
    (λ i. variable_or (ended_found slots first end n c within i)
    (allocated_or_ended (ended_found heap first end n c within i)))))
    (λ n a b c. both n (inl c)) (λ n a b c. both n (inr (omega (arith, c, near))))) where
      both : (n : ℕ) → n < first ⊎ end ≤ n →
          block_at (without first end slots) (without first end heap) n ≡ block_at slots heap n
      both n outside = (λ i. variable_or (rest_found slots first end n outside i)
          (allocated_or_ended (rest_found heap first end n outside i)))
