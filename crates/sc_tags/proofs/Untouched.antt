-- Bytes that no range has are tagged by their owner. A byte with a tag has an owner, and there is one at the start.
use Rattle.sc_tags.proofs.Common.{All, Bool, ByteTag, Code, Data, ImageParts, IsWellFormed, List, None, Option, Some}
use Rattle.sc_tags.proofs.Common.{TagRange, Unowned, [], all_tagged, and_parts, ap, ap₂, are_data, arith, code_word}
use Rattle.sc_tags.proofs.Common.{code_byte, comp_of_code, comp_of_data, false, true≢false, ◌*◌, ◌/◌, is_some}
use Rattle.sc_tags.proofs.Common.{is_tag, length, nat_eq, nat_lt, owner_of, refl, suc, sym}
use Rattle.sc_tags.proofs.Common.{tag_at, tag_by, true, word_at, zero, ℕ, if◌then◌else◌, ◌%◌, ◌&&◌, ◌+◌, ◌<◌, ◌∙◌}
use Rattle.sc_tags.proofs.Common.{◌∷◌, ◌≡◌, data_bounds, ltb-true, cases_lt, ⊎_elim}
use Rattle.sc_tags.proofs.Owners.{code_below, data_tagged, fetched_same}
use Rattle.sc_image.proofs.Common.{All-head, All-tail}
use Rattle.sc_machine.proofs.Words.{data_there}
use Rattle.sc_machine.specs.Place.{IsPlace}
use Rattle.sc_store.specs.Prelude.{HasBytes}
use Rattle.sc_tags.specs.Prelude.{first_bytes, is_data_byte, is_in_range, retagged}
use Rattle.sc_tags.specs.TagHart.{IsApart, TagSite, are_own_data, is_own_code}
use Rattle.std.specs.Option.{option_or}
use Rattle.std.specs.Prelude.{fold, ◌^◌}
use Rattle.sc_image.specs.Prelude.{start_memory}

-- Untouched bytes.

untouched : (ranges : List TagRange) (a : ℕ) (owner : ByteTag) → All (λ range. is_in_range range a ≡ false) ranges →
    fold (retagged a) owner ranges ≡ owner
untouched [] a owner apart = refl
untouched (range ∷ ranges) a owner apart =
    ap (λ inside. fold (retagged a) (if inside then range.tag else owner) ranges)
    (All-head (λ range. is_in_range range a ≡ false) range ranges apart) ∙
    untouched ranges a owner (All-tail (λ range. is_in_range range a ≡ false) range ranges apart)

module _ (image : ImageParts) (ranges : List TagRange) where
  tag_same : (a : ℕ) → All (λ range. is_in_range range a ≡ false) ranges → tag_at image ranges a ≡ tag_at image [] a
  tag_same a apart = ap (tag_by (owner_of image a)) (untouched ranges a (owner_of image a) apart)

  tagged_same : (wanted : ByteTag) (a size : ℕ) → All (λ range. IsApart range a size) ranges →
      all_tagged (tag_at image ranges) wanted a size ≡ all_tagged (tag_at image []) wanted a size
  unfolding all_tagged
  tagged_same wanted a zero apart = refl
  tagged_same wanted a (suc size) apart = ap₂ (λ x y. x && y)
      (tagged_same wanted a size (λ i d h k few. apart i d h k (omega (arith, few))))
      (ap (is_tag wanted) (tag_same (a + size) (λ i d h. apart i d h size (omega arith))))

is_some_if : (b : Bool) (x : ℕ) → is_some (if b then Some x else None) ≡ b
is_some_if true x = refl
is_some_if false x = refl

module _ (site : TagSite) (formed : IsWellFormed site.image) where
  pub code_untouched : (a : ℕ) → All (λ range. IsApart range a 4) site.ranges →
      is_some (word_at site.image site.comp a) ≡ is_own_code site a
  code_untouched a apart =
      sym (ap is_some (fetched_same site.image formed (λ b. None) site.comp a)) ∙ is_some_if _ _ ∙
      sym (ap (λ b. nat_eq (a % 4) 0 && b) (tagged_same site.image site.ranges (Code site.comp) a 4 apart))

  pub data_untouched : (a size : ℕ) → site.comp < length site.image.comps →
      All (λ range. IsApart range a size) site.ranges →
      are_data site.image site.comp a size ≡ are_own_data site a size
  data_untouched a size within apart = sym (data_tagged site.image formed site.comp a size within) ∙
      sym (tagged_same site.image site.ranges (Data site.comp) a size apart)

-- Owned bytes.

abbrev is_owned : ByteTag → Bool
is_owned (Code c) = true
is_owned (Data c) = true
is_owned Unowned = false

some_or : (first second : Option ℕ) → is_some second ≡ true → is_some (option_or first second) ≡ true
some_or None second there = there
some_or (Some byte) second there = refl

-- a byte with such a tag has an owner
pub has_owner : (wanted owner given : ByteTag) → is_owned wanted ≡ true → is_tag wanted (tag_by owner given) ≡ true →
    is_owned owner ≡ true
has_owner wanted (Code c) given owned h = refl
has_owner wanted (Data c) given owned h = refl
has_owner (Code c) Unowned given owned h = h
has_owner (Data c) Unowned given owned h = h
has_owner Unowned Unowned given owned h = owned

module _ (image : ImageParts) (formed : IsWellFormed image) where
  code_first : (a word : ℕ) → code_word image a ≡ Some word → is_some (first_bytes image a) ≡ true
  code_first a word at = rw at refl

  data_first : (a : ℕ) → is_data_byte image a ≡ true → is_some (first_bytes image a) ≡ true
  data_first a is =
      let parts = and_parts (nat_lt (comp_of_data a) (length image.comps)) _ is in
      let place : IsPlace image (comp_of_data a) = record {
        formed = formed;
        within = ltb-true (comp_of_data a) (length image.comps) parts.0;
      } in
      let here : a ≡ a + 0 = omega arith in
      some_or (code_byte image a) _ (ap (λ b. is_some (start_memory image b)) here ∙
      data_there image (comp_of_data a) a 1 place parts.1 0 (omega arith))

  owner_first : (a : ℕ) → is_owned (owner_of image a) ≡ true → is_some (first_bytes image a) ≡ true
  owner_first a owned = by _ refl _ refl owned
    where
      by : (word : Option ℕ) → code_word image a ≡ word → (data_byte : Bool) → is_data_byte image a ≡ data_byte →
          is_owned (if is_some word then Code (comp_of_code (a / 4 * 4)) else if data_byte then Data (comp_of_data a)
          else Unowned) ≡ true → is_some (first_bytes image a) ≡ true
      by (Some word) at data_byte is h = code_first a word at
      by None at true is h = data_first a is
      by None at false is h = absurd (true≢false (sym h))

  -- and it lies far below the last address
  code_low : (a word : ℕ) → code_word image a ≡ Some word → a + 4 < 2 ^ 32
  code_low a word at = let low = code_below image formed (comp_of_code (a / 4 * 4)) (a / 4 * 4) word at in
      omega (arith, low)

  data_low : (a : ℕ) → is_data_byte image a ≡ true → a + 4 < 2 ^ 32
  data_low a is =
      let parts = and_parts (nat_lt (comp_of_data a) (length image.comps)) _ is in
      let within = ltb-true (comp_of_data a) (length image.comps) parts.0 in
      let bounds = data_bounds image (comp_of_data a) a 1 formed (omega arith) parts.1 in
      let few = formed.few_comps in
      omega (arith, bounds.1, within, few)

  owner_low : (a : ℕ) → is_owned (owner_of image a) ≡ true → a + 4 < 2 ^ 32
  owner_low a owned = by _ refl _ refl owned
    where
      by : (word : Option ℕ) → code_word image a ≡ word → (data_byte : Bool) → is_data_byte image a ≡ data_byte →
          is_owned (if is_some word then Code (comp_of_code (a / 4 * 4)) else if data_byte then Data (comp_of_data a)
          else Unowned) ≡ true → a + 4 < 2 ^ 32
      by (Some word) at data_byte is h = code_low a word at
      by None at true is h = data_low a is
      by None at false is h = absurd (true≢false (sym h))

  pub tagged_low : (ranges : List TagRange) (wanted : ByteTag) (a size : ℕ) → is_owned wanted ≡ true → 0 < size →
      all_tagged (tag_at image ranges) wanted a size ≡ true → a + 4 < 2 ^ 32
  unfolding all_tagged
  tagged_low ranges wanted a zero owned some all = absurd (omega (arith, some))
  tagged_low ranges wanted a (suc size) owned some all =
      let parts = and_parts (all_tagged (tag_at image ranges) wanted a size) _ all in
      let last : a + size + 4 < 2 ^ 32 = owner_low (a + size)
      (has_owner wanted (owner_of image (a + size)) _ owned parts.1) in
      omega (arith, last)

  pub tagged_there : (ranges : List TagRange) (wanted : ByteTag) (a size : ℕ) → is_owned wanted ≡ true →
      all_tagged (tag_at image ranges) wanted a size ≡ true → HasBytes (first_bytes image) a size
  unfolding all_tagged
  tagged_there ranges wanted a zero owned all k few = absurd (omega (arith, few))
  tagged_there ranges wanted a (suc size) owned all k few =
      let parts = and_parts (all_tagged (tag_at image ranges) wanted a size) _ all in
      ⊎_elim (λ below. tagged_there ranges wanted a size owned parts.0 k below)
      (λ last. let same : size ≡ k = omega (arith, last, few) in
      ap (λ j. is_some (first_bytes image (a + j))) (sym same) ∙
      owner_first (a + size) (has_owner wanted (owner_of image (a + size)) _ owned parts.1)) (cases_lt k size)

  -- bytes that are tagged as a compartment's code or data
  pub code_tagged : (ranges : List TagRange) (c a : ℕ) → all_tagged (tag_at image ranges) (Code c) a 4 ≡ true →
      HasBytes (first_bytes image) a 4 × (a + 4 < 2 ^ 32)
  code_tagged ranges c a all =
      (tagged_there ranges (Code c) a 4 refl all, tagged_low ranges (Code c) a 4 refl (omega arith) all)

  pub data_tagged_there : (ranges : List TagRange) (c a size : ℕ) →
      all_tagged (tag_at image ranges) (Data c) a size ≡ true → HasBytes (first_bytes image) a size
  data_tagged_there ranges c a size all = tagged_there ranges (Data c) a size refl all

-- What a site's own bytes are.
module _ (site : TagSite) (formed : IsWellFormed site.image) where
  pub own_code : (a : ℕ) → is_own_code site a ≡ true → HasBytes (first_bytes site.image) a 4 × (a + 4 < 2 ^ 32)
  own_code a is = let parts = and_parts (nat_eq (a % 4) 0) _ is in
      code_tagged site.image formed site.ranges site.comp a parts.1
