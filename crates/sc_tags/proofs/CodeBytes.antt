-- The bytes of code at the start: zeros, and then the words of each compartment.
use Rattle.sc_tags.proofs.Bytes.{code_low, code_nobody, code_there}
use Rattle.sc_tags.proofs.Common.{All, Bool, ByteMemory, ImageParts, IsWellFormed, List}
use Rattle.sc_tags.proofs.Common.{None, Option, Some, [], ap, arith}
use Rattle.sc_tags.proofs.Common.{cases_lt, code_byte, code_start, code_word, comp_of_code, eq-eqb, eqb-true, false}
use Rattle.sc_tags.proofs.Common.{if◌then◌else◌}
use Rattle.sc_tags.proofs.Common.{is_some, le-leb, le-ltb, length, lt-ltb, nat_eq, nat_le, nat_lt, nat_tests}
use Rattle.sc_tags.proofs.Common.{refl, slice_get, subst, suc, sym, true, true≢false, with_bytes, word_at}
use Rattle.sc_tags.proofs.Common.{zero, ℕ, ⊎_elim, ◌%◌, ◌&&◌, ◌*◌, ◌+◌, ◌-◌, ◌/◌, ◌<◌, ◌∙◌, ◌∷◌, ◌≡◌, ◌≤◌}
use Rattle.sc_image.specs.declared.parts.CompPart.{CompPart}
use Rattle.sc_image.specs.Prelude.{stretch}
use Rattle.sc_machine.proofs.Start.{Ordered, apart_by}
use Rattle.sc_store.proofs.Words.{by_access, in_cases, in_false, in_true, stored-apart, stored-in}
use Rattle.sc_store.specs.Prelude.{AreApart, AreBelow, HasBytes, IsIn, byte_of, is_in, zeros}
use Rattle.sc_store.specs.declared.region.Region.{Region}
use Rattle.sc_tags.specs.CodeBytes.{HasShortCode, code_region, code_regions, with_words}
use Rattle.std.proofs.lemmas.List.Elements.{All-cons, All-head, All-nil, All-tail}
use Rattle.std.proofs.lemmas.Option.{slice_get-get_or, slice_get_past}
use Rattle.std.proofs.Common.{get_or, take}
use Rattle.std.specs.Option.{option_map}
use Rattle.std.specs.Prelude.{slice_index, ◌++◌, ◌^◌}

-- Words, one after the other.

abbrev inside : (start count address : ℕ) → Bool
inside start count address = nat_le start address && nat_lt address (start + 4 * count)

no_words_at : (m : ByteMemory) (start b : ℕ) (words : List ℕ) → with_words m start words 0 b ≡ m b
no_words_at m start b words =
    ap (λ t. if t then Some (byte_of (slice_index words ((b - start) / 4)) ((b - start) % 4)) else m b)
    (let none : inside start 0 b ≡ false = grind (arith, nat_tests) in none)

pub no_words : (m : ByteMemory) (start : ℕ) (words : List ℕ) → ◌≡◌ {A = ByteMemory} m (with_words m start words 0)
no_words m start words = λ i b. sym (no_words_at m start b words) i

module _ (m : ByteMemory) (start k word : ℕ) (words : List ℕ) (is : word ≡ slice_index words k) where
  word_in : (b : ℕ) → start + 4 * k ≤ b → b < start + 4 * k + 4 →
      with_bytes (with_words m start words k) (start + 4 * k) 4 word b ≡ with_words m start words (k + 1) b
  word_in b low high =
      let here : inside start (k + 1) b ≡ true = rw (
        le-leb start b (omega (arith, low)),
        lt-ltb b (start + 4 * (k + 1)) (omega (arith, high)),
      ) refl in
      let place : (b - start) / 4 ≡ k = omega (arith, low, high) in
      let byte : (b - start) % 4 ≡ b - (start + 4 * k) = omega (arith, low, high) in
      stored-in (with_words m start words k) (start + 4 * k) 4 word b low high ∙
      sym (rw (here, place, byte, is) refl)

  word_apart : (b : ℕ) → (start + 4 * k ≤ b → b < start + 4 * k + 4 → ⊥) →
      with_bytes (with_words m start words k) (start + 4 * k) 4 word b ≡ with_words m start words (k + 1) b
  word_apart b out = stored-apart (with_words m start words k) (start + 4 * k) 4 word b out ∙
      ap (λ t. if t then Some (byte_of (slice_index words ((b - start) / 4)) ((b - start) % 4)) else m b) (same out)
    where
      same : (start + 4 * k ≤ b → b < start + 4 * k + 4 → ⊥) → inside start k b ≡ inside start (k + 1) b
      same out = ⊎_elim
          (λ low. let below : inside start k b ≡ inside start (k + 1) b = grind (arith, nat_tests, low) in below)
          (λ from. ⊎_elim (λ high. absurd (out from high))
          (λ past. let above : inside start k b ≡ inside start (k + 1) b = grind (arith, nat_tests, past) in above)
          (cases_lt b (start + 4 * k + 4))) (cases_lt b (start + 4 * k))

  word_at_b : (b : ℕ) →
      with_bytes (with_words m start words k) (start + 4 * k) 4 word b ≡ with_words m start words (k + 1) b
  word_at_b b = by_access (start + 4 * k) 4 b (word_apart b) (word_in b)

  pub words_more : ◌≡◌ {A = ByteMemory} (with_bytes (with_words m start words k) (start + 4 * k) 4 word)
      (with_words m start words (k + 1))
  words_more = λ i b. word_at_b b i

kept_some : (t : Bool) (x : ℕ) (o : Option ℕ) → is_some o ≡ true → is_some (if t then Some x else o) ≡ true
kept_some true x o h = refl
kept_some false x o h = h

pub word_has : (m : ByteMemory) (start k : ℕ) (words : List ℕ) → k < length words →
    HasBytes m start (4 * length words) → HasBytes (with_words m start words k) (start + 4 * k) 4
word_has m start k words within there j few =
    let place : start + 4 * k + j ≡ start + (4 * k + j) = omega arith in
    kept_some (inside start k (start + 4 * k + j)) _ (m (start + 4 * k + j))
    (ap (λ a. is_some (m a)) place ∙ there (4 * k + j) (omega (arith, few, within)))

-- The compartments.

pub all_short : (image : ImageParts) → IsWellFormed image → All HasShortCode image.comps
all_short image formed = λ i d within. (formed.comps i (get_or _ i d) (slice_get-get_or _ i d within)).short_code

-- where code of compartment c begins, the regions before it have ended
ordered : (comps : List CompPart) (c low : ℕ) → All HasShortCode comps → low ≤ code_start c →
    Ordered low (code_regions c comps)
ordered [] c low short from = tt
ordered (comp ∷ comps) c low short from =
    let first = All-head HasShortCode comp comps short in
    (from, ordered comps (suc c) _ (All-tail HasShortCode comp comps short) (omega (arith, first)))

pub code_apart : (comps : List CompPart) → All HasShortCode comps → AreApart (code_regions 0 comps)
code_apart comps short = apart_by _ 0 (ordered comps 0 0 short (omega arith))

abbrev IsBelow : Region → Type 0
IsBelow region = region.start + region.bytes ≤ 2 ^ 32

below_from : (comps : List CompPart) (c : ℕ) → c + length comps ≤ 32 → All HasShortCode comps →
    AreBelow (code_regions c comps)
below_from [] c count short = All-nil IsBelow
below_from (comp ∷ comps) c count short =
    let first = All-head HasShortCode comp comps short in
    All-cons IsBelow (code_region c comp) (code_regions (suc c) comps) (omega (arith, count, first))
    (below_from comps (suc c) (omega (arith, count)) (All-tail HasShortCode comp comps short))

pub code_below : (comps : List CompPart) → length comps ≤ 32 → All HasShortCode comps →
    AreBelow (code_regions 0 comps)
code_below comps count short = below_from comps 0 (omega (arith, count)) short

-- one region more
more_by : (comps : List CompPart) (c i n : ℕ) (comp : CompPart) → n ≡ c + i → slice_get comps i ≡ Some comp →
    code_regions c (take (suc i) comps) ≡ code_regions c (take i comps) ++ code_region n comp ∷ []
more_by [] c i n comp place is = let never = is in cc never
more_by (x ∷ xs) c zero n comp place is =
    let first : c ≡ n = omega (arith, place) in
    let same : x ≡ comp = cc is in
    ap (λ k. code_region k x ∷ []) first ∙ ap (λ y. code_region n y ∷ []) same
more_by (x ∷ xs) c (suc i) n comp place is =
    ap (λ rest. code_region c x ∷ rest) (more_by xs (suc c) i n comp (omega (arith, place)) is)

pub regions_more : (comps : List CompPart) (i : ℕ) (comp : CompPart) (regions : List Region) → i < length comps →
    comp ≡ get_or comps i comp → regions ≡ code_regions 0 (take i comps) →
    regions ++ code_region i comp ∷ [] ≡ code_regions 0 (take (i + 1) comps)
regions_more comps i comp regions within item so_far =
    let more : i + 1 ≡ suc i = omega arith in
    rw (so_far, more) (sym (more_by comps 0 i i comp (omega arith)
    (slice_get-get_or comps i comp within ∙ ap Some (sym item))))

-- Bytes.

none_of : (x : Option ℕ) → is_some x ≡ false → x ≡ None
none_of None none = refl
none_of (Some x) some = absurd (true≢false some)

-- the address is one of the code of the compartment of that number
record IsOf (c address : ℕ) (comp : CompPart) : Type 0 where
  pub low : code_start c ≤ address
  pub high : address < code_start c + 4 * length comp.code

-- where the word begins that a byte is of
abbrev pub place_of : (address : ℕ) → ℕ
place_of a = a / 4 * 4

-- zeros at the addresses of code
abbrev pub blank_code : ImageParts → ByteMemory
blank_code image a = option_map (λ word. 0) (code_word image a)

-- the bytes of code where the compartments below that number have their words, and the others zeros
abbrev pub code_so_far : ImageParts → (count : ℕ) → ByteMemory
code_so_far image count a =
    if nat_lt (comp_of_code (place_of a)) count then code_byte image a else blank_code image a

module _ (image : ImageParts) (formed : IsWellFormed image) where
  short : (c : ℕ) (comp : CompPart) → slice_get image.comps c ≡ Some comp → 4 * length comp.code ≤ stretch
  short c comp found = (formed.comps c comp found).short_code

  whose : (c a : ℕ) (comp : CompPart) → slice_get image.comps c ≡ Some comp → IsOf c a comp →
      comp_of_code (a / 4 * 4) ≡ c
  whose c a comp found h = let s = short c comp found in omega (arith, s, h.low, h.high)

  -- the word that a byte of a compartment's code is of
  word_of_comp : (c a : ℕ) (comp : CompPart) → slice_get image.comps c ≡ Some comp → IsOf c a comp →
      code_word image a ≡ Some (slice_index comp.code ((a - code_start c) / 4))
  unfolding word_at
  word_of_comp c a comp found h =
      let number = whose c a comp found h in
      let aligned : nat_eq (a / 4 * 4 % 4) 0 ≡ true = eq-eqb (a / 4 * 4 % 4) 0 (omega arith) in
      let from : nat_le (code_start c) (a / 4 * 4) ≡ true =
      le-leb (code_start c) (a / 4 * 4) (let l = h.low in omega (arith, l)) in
      let place : (a / 4 * 4 - code_start c) / 4 ≡ (a - code_start c) / 4 = let l = h.low in omega (arith, l) in
      rw (number, aligned, from, found, place)
      (slice_get-get_or comp.code ((a - code_start c) / 4) 0 (let l = h.low in let r = h.high in omega (arith, l, r)))

  -- no byte of code

  no_word : (c a : ℕ) (comp : CompPart) → slice_get image.comps c ≡ Some comp → comp_of_code (place_of a) ≡ c →
      (IsOf c a comp → ⊥) → code_word image a ≡ None
  no_word c a comp found number out = ⊎_elim
      (λ low. none_of _ (code_low image (place_of a) (omega arith) (omega (arith, low))))
      (λ from. none_of _ (code_there image (place_of a) (omega arith) comp
      (ap (slice_get image.comps) number ∙ found) (omega (arith, from)) ∙ le-ltb _ _ (past from)))
      (cases_lt a 0x01000000)
    where
      past : 0x01000000 ≤ a → length comp.code ≤ (place_of a - 0x01000000) % 0x100000 / 4
      past from = ⊎_elim
          (λ below. absurd (out (record {
            low = omega (arith, from, number);
            high = let n = number in omega (arith, from, n, below);
          })))
          (λ above. above) (cases_lt ((place_of a - 0x01000000) % 0x100000 / 4) (length comp.code))

  nobody : (a : ℕ) → slice_get image.comps (comp_of_code (place_of a)) ≡ None → code_word image a ≡ None
  nobody a none = none_of _ (code_nobody image (place_of a) (omega arith) none)

  -- Zeros.

  zero_if : (t : Bool) (o : Option ℕ) → o ≡ Some 0 → (if t then Some 0 else o) ≡ Some 0
  zero_if true o h = refl
  zero_if false o h = h

  zero_in : (comps : List CompPart) (c i n a : ℕ) (comp : CompPart) → n ≡ c + i → slice_get comps i ≡ Some comp →
      IsOf n a comp → zeros (code_regions c comps) a ≡ Some 0
  zero_in [] c i n a comp place is h = let never : ◌≡◌ {A = Option CompPart} None (Some comp) = is in cc never
  zero_in (x ∷ xs) c zero n a comp place is h =
      let first : c ≡ n = omega (arith, place) in
      let same : x ≡ comp = cc is in
      let here : is_in (code_region c x) a ≡ true = rw (first, same)
      (in_true (code_region n comp) a (h.low, h.high)) in
      rw here refl
  zero_in (x ∷ xs) c (suc i) n a comp place is h =
      zero_if (is_in (code_region c x) a) _ (zero_in xs (suc c) i n a comp (omega (arith, place)) is h)

  zero_out : (comps : List CompPart) (c a : ℕ) → ((i : ℕ) (comp : CompPart) → slice_get comps i ≡ Some comp →
      IsOf (c + i) a comp → ⊥) → zeros (code_regions c comps) a ≡ None
  zero_out [] c a out = refl
  zero_out (x ∷ xs) c a out =
      let here : is_in (code_region c x) a ≡ false = in_false (code_region c x) a
      (λ is. out 0 x refl (record {
        low = let l = is.0 in omega (arith, l);
        high = let r = is.1 in omega (arith, r);
      })) in
      let later = zero_out xs (suc c) a (λ i comp at h. out (suc i) comp at (record {
        low = let l = h.low in omega (arith, l);
        high = let r = h.high in omega (arith, r);
      })) in
      rw here later

  abbrev zeroed : ByteMemory
  zeroed = zeros (code_regions 0 image.comps)

  from_zero : (i a : ℕ) (comp : CompPart) → IsOf (0 + i) a comp → IsOf i a comp
  from_zero i a comp h = record {
    low = let l = h.low in omega (arith, l);
    high = let r = h.high in omega (arith, r);
  }

  blank_by : (a : ℕ) (comp : Option CompPart) → slice_get image.comps (comp_of_code (place_of a)) ≡ comp →
      zeroed a ≡ blank_code image a
  blank_by a None none = zero_out image.comps 0 a
      (λ i comp at h. let number = whose i a comp at (from_zero i a comp h) in
      let never : ◌≡◌ {A = Option CompPart} None (Some comp) =
      sym none ∙ ap (slice_get image.comps) number ∙ at in cc never) ∙
      sym (rw (nobody a none) refl)
  blank_by a (Some comp) found = ⊎_elim
      (λ is. let h : IsOf (comp_of_code (place_of a)) a comp = record { low = is.0; high = is.1 } in
      zero_in image.comps 0 (comp_of_code (place_of a)) (comp_of_code (place_of a)) a comp (omega arith) found h ∙
      sym (rw (word_of_comp _ a comp found h) refl))
      (λ out. zero_out image.comps 0 a
      (λ i other at first. let h = from_zero i a other first in let number = whose i a other at h in
      let same : Some other ≡ Some comp = sym at ∙ ap (slice_get image.comps) (sym number) ∙ found in
      let comps : other ≡ comp = cc same in
      out (
        subst (λ c. code_start c ≤ a) (sym number) h.low,
        subst (λ c. a < code_start c + 4 * length comp.code) (sym number)
            (subst (λ (x : CompPart). a < code_start i + 4 * length x.code) comps h.high),
      )) ∙
      sym (rw (no_word _ a comp found refl (λ h. out (h.low, h.high))) refl))
      (in_cases (code_region (comp_of_code (place_of a)) comp) a)

  -- So far of the compartments.

  so_far_zeros_at : (a : ℕ) → zeroed a ≡ code_so_far image 0 a
  so_far_zeros_at a = blank_by a _ refl ∙ sym (rw (le-ltb (comp_of_code (place_of a)) 0 (omega arith)) refl)

  pub so_far_zeros : ◌≡◌ {A = ByteMemory} zeroed (code_so_far image 0)
  so_far_zeros = λ i a. so_far_zeros_at a i

  so_far_all_at : (a : ℕ) → code_so_far image (length image.comps) a ≡ code_byte image a
  so_far_all_at a = ⊎_elim
      (λ within. rw (lt-ltb (comp_of_code (place_of a)) (length image.comps) within) refl)
      (λ past. let none = nobody a (slice_get_past image.comps (comp_of_code (place_of a)) past) in
      rw (le-ltb (comp_of_code (place_of a)) (length image.comps) past, none) refl)
      (cases_lt (comp_of_code (place_of a)) (length image.comps))

  pub so_far_all : ◌≡◌ {A = ByteMemory} (code_so_far image (length image.comps)) (code_byte image)
  so_far_all = λ i a. so_far_all_at a i

  some_either : (t : Bool) (f g : ℕ → ℕ) (x : Option ℕ) → is_some x ≡ true →
      is_some (if t then option_map f x else option_map g x) ≡ true
  some_either true f g (Some x) some = refl
  some_either false f g (Some x) some = refl
  some_either t f g None none = absurd (true≢false (sym none))

  module _ (i : ℕ) (comp : CompPart) (found : slice_get image.comps i ≡ Some comp) where
    pub so_far_has : HasBytes (code_so_far image i) (code_start i) (4 * length comp.code)
    so_far_has k few = some_either _ _ _ (code_word image (code_start i + k))
        (ap is_some (word_of_comp i (code_start i + k) comp found
        (record { low = omega arith; high = omega (arith, few) })))

    more_in : (a : ℕ) → IsOf i a comp →
        with_words (code_so_far image i) (code_start i) comp.code (length comp.code) a ≡ code_so_far image (i + 1) a
    more_in a h =
        let number = whose i a comp found h in
        let low = h.low in
        let byte : a % 4 ≡ (a - code_start i) % 4 = omega (arith, low) in
        rw (
          le-leb (code_start i) a h.low,
          lt-ltb a (code_start i + 4 * length comp.code) h.high,
          word_of_comp i a comp found h,
          number,
          lt-ltb i (i + 1) (omega arith),
          byte,
        ) refl

    stays_out : (a : ℕ) → (IsOf i a comp → ⊥) → (own : Bool) → nat_eq (comp_of_code (place_of a)) i ≡ own →
        code_so_far image i a ≡ code_so_far image (i + 1) a
    stays_out a out true is =
        let number = eqb-true (comp_of_code (place_of a)) i is in
        let none = no_word i a comp found number out in
        rw (none, number, le-ltb i i (omega arith), lt-ltb i (i + 1) (omega arith)) refl
    stays_out a out false is =
        ap (λ t. if t then code_byte image a else blank_code image a)
        (let same : nat_lt (comp_of_code (place_of a)) i ≡ nat_lt (comp_of_code (place_of a)) (i + 1) =
        grind (arith, nat_tests, is) in same)

    more_out : (a : ℕ) → (IsIn (code_region i comp) a → ⊥) →
        with_words (code_so_far image i) (code_start i) comp.code (length comp.code) a ≡ code_so_far image (i + 1) a
    more_out a out = ap (λ t. if t then Some (byte_of (slice_index comp.code ((a - code_start i) / 4))
        ((a - code_start i) % 4)) else code_so_far image i a) (in_false (code_region i comp) a out) ∙
        stays_out a (λ h. out (h.low, h.high)) _ refl

    more_at : (a : ℕ) →
        with_words (code_so_far image i) (code_start i) comp.code (length comp.code) a ≡ code_so_far image (i + 1) a
    more_at a = ⊎_elim (λ is. more_in a (record { low = is.0; high = is.1 })) (more_out a)
        (in_cases (code_region i comp) a)

    pub so_far_more : ◌≡◌ {A = ByteMemory}
        (with_words (code_so_far image i) (code_start i) comp.code (length comp.code)) (code_so_far image (i + 1))
    so_far_more = λ j a. more_at a j

-- an item of a list that is another's
pub comp_there : (comps others : List CompPart) (i : ℕ) (comp : CompPart) → comps ≡ others → i < length comps →
    comp ≡ get_or comps i comp → slice_get others i ≡ Some comp
comp_there comps others i comp same within item =
    ap (λ xs. slice_get xs i) (sym same) ∙ slice_get-get_or comps i comp within ∙ ap Some (sym item)
