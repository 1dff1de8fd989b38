-- Without ranges, what is tagged as a compartment's code or data is its code or its data, and memory is that of the
-- machine with regions, with the code too.
use Rattle.sc_tags.proofs.Common.{Bool, ByteMemory, ByteTag, Code, Data, ImageParts, IsWellFormed, None, Option, Some}
use Rattle.sc_tags.proofs.Common.{Unowned, [], all_tagged, and_parts, ap, ap₂, are_data, arith, code_start, code_word}
use Rattle.sc_tags.proofs.Common.{comp_found, comp_of_code, comp_of_data, data_bounds, data_start, eq-eqb, eqb-true}
use Rattle.sc_tags.proofs.Common.{false, if_some, in_code, is_some, is_tag, leb-true, length, load_of, load_of-same}
use Rattle.sc_tags.proofs.Common.{load_of-stored, lt-ltb, ltb-true, nat_eq, nat_le, nat_lt, one_is, one_of, owner_of}
use Rattle.sc_tags.proofs.Common.{owns, refl, slice_get, slice_get_within, stored-at, suc, sym, tag_at, tag_by, true}
use Rattle.sc_tags.proofs.Common.{with_bytes, with_code, word_at, zero, ℕ, if◌then◌else◌, ◌%◌, ◌&&◌, ◌*◌, ◌+◌, ◌-◌, ◌/◌}
use Rattle.sc_tags.proofs.Common.{◌<◌, ◌∙◌, ◌≡◌, ◌≤◌}

-- with no range a tag stays
stays : (tag : ByteTag) → tag_by tag tag ≡ tag
stays (Code c) = refl
stays (Data c) = refl
stays Unowned = refl

-- code lies below all data
pub code_below : (image : ImageParts) → IsWellFormed image → (c address word : ℕ) →
    word_at image c address ≡ Some word → address < data_start 0
unfolding word_at
code_below image formed c address word at =
    let inside = if_some _ _ word at in
    let tests = and_parts (nat_eq (address % 4) 0) _ inside.0 in
    let from : code_start c ≤ address = leb-true _ address tests.1 in
    let found = comp_found (λ comp. comp.code) []
    (λ code. slice_get code ((address - code_start c) / 4) ≡ Some word) (λ none. cc none) _ inside.1 in
    let well = formed.comps c found.0 found.1 in
    let within = slice_get_within found.0.code ((address - code_start c) / 4) word found.2 in
    omega (arith, within, well.short_code, from, slice_get_within _ c found.0 found.1, formed.few_comps)

module _ (image : ImageParts) (formed : IsWellFormed image) where
  -- a byte of data is no byte of code, and its address says whose it is
  data_comp : (c a : ℕ) → are_data image c a 1 ≡ true → comp_of_data a ≡ c
  data_comp c a is = let bounds = data_bounds image c a 1 formed (omega arith) is in
      omega (arith, bounds.0, bounds.1)

  no_code_by : (c a : ℕ) → are_data image c a 1 ≡ true → (word : Option ℕ) → code_word image a ≡ word →
      code_word image a ≡ None
  no_code_by c a is None at = at
  no_code_by c a is (Some word) at =
      let low = code_below image formed _ _ word at in
      let bounds = data_bounds image c a 1 formed (omega arith) is in
      absurd (omega (arith, low, bounds.0))

  pub no_code : (c a : ℕ) → are_data image c a 1 ≡ true → code_word image a ≡ None
  no_code c a is = no_code_by c a is _ refl

  -- Tags as data.

  owner_data : (c a : ℕ) → is_tag (Data c) (tag_at image [] a) ≡ is_tag (Data c) (owner_of image a)
  owner_data c a = ap (is_tag (Data c)) (stays (owner_of image a))

  by_owned : (c a : ℕ) → c < length image.comps → are_data image c a 1 ≡ true →
      is_tag (Data c) (owner_of image a) ≡ true
  by_owned c a within is =
      let same = data_comp c a is in
      let there = lt-ltb c (length image.comps) within in
      rw (no_code c a is, same, there, is) (eq-eqb c c refl)

  by_other : (c y : ℕ) (code data_there : Bool) (x : ℕ) → (y ≡ c → data_there ≡ true → false ≡ true) →
      is_tag (Data c) (if code then Code x else if data_there then Data y else Unowned) ≡ false
  by_other c y true there x never = refl
  by_other c y false false x never = refl
  by_other c y false true x never = by _ refl
    where
      by : (same : Bool) → nat_eq y c ≡ same → same ≡ false
      by false is = refl
      by true is = sym (never (eqb-true y c is) refl)

  kind_by : (c a : ℕ) (owned : Bool) → c < length image.comps → are_data image c a 1 ≡ owned →
      is_tag (Data c) (owner_of image a) ≡ owned
  kind_by c a true within is = by_owned c a within is
  kind_by c a false within is = by_other c (comp_of_data a) (is_some (code_word image a)) _ _
      (λ same there. sym (ap (λ d. are_data image d a 1) same ∙ is) ∙
      (and_parts (nat_lt (comp_of_data a) (length image.comps)) _ there).1)

  data_kind : (c a : ℕ) → c < length image.comps → is_tag (Data c) (tag_at image [] a) ≡ owns image c a
  data_kind c a within = owner_data c a ∙ kind_by c a _ within refl ∙ one_is image c a

  pub data_tagged : (c a size : ℕ) → c < length image.comps →
      all_tagged (tag_at image []) (Data c) a size ≡ are_data image c a size
  unfolding all_tagged are_data
  data_tagged c a zero within = refl
  data_tagged c a (suc size) within =
      ap₂ (λ x y. x && y) (data_tagged c a size within) (data_kind c (a + size) within)

  -- Tags as code.

  by_code : (c x y : ℕ) (code data_there : Bool) →
      is_tag (Code c) (if code then Code x else if data_there then Data y else Unowned) ≡ (code && nat_eq x c)
  by_code c x y true there = refl
  by_code c x y false true = refl
  by_code c x y false false = refl

  code_kind : (c a : ℕ) → is_tag (Code c) (tag_at image [] a) ≡
      (is_some (code_word image a) && nat_eq (comp_of_code (a / 4 * 4)) c)
  code_kind c a = ap (is_tag (Code c)) (stays (owner_of image a)) ∙ by_code c _ (comp_of_data a) _ _

  -- the four bytes of an aligned word
  same_place : (a k : ℕ) → a % 4 ≡ 0 → k < 4 → (a + k) / 4 * 4 ≡ a
  same_place a k aligned few = omega (arith, aligned, few)

  abbrev is_own : (c a : ℕ) → Bool
  is_own c a = is_some (word_at image (comp_of_code a) a) && nat_eq (comp_of_code a) c

  byte_kind : (c a k : ℕ) → a % 4 ≡ 0 → k < 4 → is_tag (Code c) (tag_at image [] (a + k)) ≡ is_own c a
  byte_kind c a k aligned few = code_kind c (a + k) ∙
      ap (λ place. is_some (word_at image (comp_of_code place) place) && nat_eq (comp_of_code place) c)
      (same_place a k aligned few)

  four : (b p q r s : Bool) → p ≡ b → q ≡ b → r ≡ b → s ≡ b → (true && p && q && r && s) ≡ b
  four true p q r s h i j k = rw (h, i, j, k) refl
  four false p q r s h i j k = rw h refl

  code_tagged : (c a : ℕ) → a % 4 ≡ 0 → all_tagged (tag_at image []) (Code c) a 4 ≡ is_own c a
  unfolding all_tagged
  code_tagged c a aligned = four (is_own c a) _ _ _ _
      (byte_kind c a 0 aligned (omega arith)) (byte_kind c a 1 aligned (omega arith))
      (byte_kind c a 2 aligned (omega arith)) (byte_kind c a 3 aligned (omega arith))

  -- Memory.

  -- a word of code
  code_there : (memory : ByteMemory) (c a word k : ℕ) → word_at image c a ≡ Some word → k < 4 →
      with_code image memory (a + k) ≡ with_bytes memory a 4 word (a + k)
  code_there memory c a word k at few =
      let inside = in_code image formed c a word at in
      let here : code_word image (a + k) ≡ Some word =
      ap (λ place. word_at image (comp_of_code place) place) (same_place a k inside.aligned few) ∙
      ap (λ d. word_at image d a) inside.comp ∙ at in
      let aligned = inside.aligned in
      let place : (a + k) % 4 ≡ k = omega (arith, aligned, few) in
      rw (here, place) (sym (stored-at memory a 4 word k few))

  code_loaded : (memory : ByteMemory) (c a word : ℕ) → word_at image c a ≡ Some word →
      load_of (with_code image memory) a 4 ≡ word
  code_loaded memory c a word at =
      let bits = (in_code image formed c a word at).bits in
      load_of-same (with_code image memory) (with_bytes memory a 4 word) a 4
      (λ k few. code_there memory c a word k at few) ∙ load_of-stored memory a 4 word ∙ omega (arith, bits)

  -- data, as loads and stores find them
  data_there : (memory : ByteMemory) (c a : ℕ) → are_data image c a 1 ≡ true →
      with_code image memory a ≡ memory a
  data_there memory c a is = rw (no_code c a is) refl

  pub data_loaded : (memory : ByteMemory) (c a size : ℕ) → are_data image c a size ≡ true →
      load_of (with_code image memory) a size ≡ load_of memory a size
  data_loaded memory c a size is = load_of-same (with_code image memory) memory a size
      (λ k within. data_there memory c (a + k) (one_of image c a size k is within))

  stored_by : (memory : ByteMemory) (c a size word b : ℕ) → are_data image c a size ≡ true →
      (inside : Bool) → (nat_le a b && nat_lt b (a + size)) ≡ inside →
      with_bytes (with_code image memory) a size word b ≡ with_code image (with_bytes memory a size word) b
  stored_by memory c a size word b is false out = rw out refl
  stored_by memory c a size word b is true within =
      let tests = and_parts (nat_le a b) _ within in
      let low = leb-true a b tests.0 in
      let high = ltb-true b (a + size) tests.1 in
      let there : are_data image c b 1 ≡ true =
      ap (λ d. are_data image c d 1) (let e : b ≡ a + (b - a) = omega (arith, low) in e) ∙
      one_of image c a size (b - a) is (omega (arith, low, high)) in
      rw (within, no_code c b there) refl

  pub data_stored : (memory : ByteMemory) (c a size word : ℕ) → are_data image c a size ≡ true →
      ◌≡◌ {A = ByteMemory} (with_bytes (with_code image memory) a size word)
      (with_code image (with_bytes memory a size word))
  data_stored memory c a size word is = λ i b. stored_by memory c a size word b is _ refl i

  -- Fetches.

  -- no word of the compartment's, and so no own code at the address
  no_own : (c a : ℕ) → word_at image c a ≡ None → (same : Bool) → nat_eq (comp_of_code a) c ≡ same →
      is_own c a ≡ false
  no_own c a none true is =
      let whose = eqb-true (comp_of_code a) c is in
      rw (whose, none) refl
  no_own c a none false is = rw is (and_false (is_some (word_at image (comp_of_code a) a)))
    where
      and_false : (b : Bool) → (b && false) ≡ false
      and_false true = refl
      and_false false = refl

  word_by : (memory : ByteMemory) (c a : ℕ) → a % 4 ≡ 0 → (word : Option ℕ) → word_at image c a ≡ word →
      (if all_tagged (tag_at image []) (Code c) a 4 then Some (load_of (with_code image memory) a 4) else None) ≡ word
  word_by memory c a aligned None at = rw (code_tagged c a aligned, no_own c a at _ refl) refl
  word_by memory c a aligned (Some word) at =
      let whose = (in_code image formed c a word at).comp in
      rw (code_tagged c a aligned, whose, at, eq-eqb c c refl) (ap Some (code_loaded memory c a word at))

  misaligned : (c a : ℕ) → nat_eq (a % 4) 0 ≡ false → word_at image c a ≡ None
  unfolding word_at
  misaligned c a is = rw is refl

  fetched_by : (memory : ByteMemory) (c a : ℕ) (aligned : Bool) → nat_eq (a % 4) 0 ≡ aligned →
      (if aligned && all_tagged (tag_at image []) (Code c) a 4 then Some (load_of (with_code image memory) a 4)
      else None) ≡ word_at image c a
  fetched_by memory c a true is = word_by memory c a (eqb-true (a % 4) 0 is) _ refl
  fetched_by memory c a false is = sym (misaligned c a is)

  -- the word that is fetched is the one of the compartment's code
  pub fetched_same : (memory : ByteMemory) (c a : ℕ) →
      (if nat_eq (a % 4) 0 && all_tagged (tag_at image []) (Code c) a 4
      then Some (load_of (with_code image memory) a 4) else None) ≡ word_at image c a
  fetched_same memory c a = fetched_by memory c a _ refl
