-- The owner of a byte, as the code finds it, and bytes that no range has.
use Rattle.sc_tags.proofs.Common.{Bool, ByteTag, ImageParts, IsWellFormed, List, None, Option, Some}
use Rattle.sc_tags.proofs.Common.{[], all_tagged, ap, arith, code_start, comp_of_code}
use Rattle.sc_tags.proofs.Common.{comp_of_data, eq-eqb, false, if◌then◌else◌, is_some, is_tag, length, lt-leb}
use Rattle.sc_tags.proofs.Common.{le-leb, le-ltb, lt-ltb, nat_lt, nat_tests, one_is, owns_is, refl, slice_get}
use Rattle.sc_tags.proofs.Common.{suc, sym, true, word_at, zero, ℕ, ◌%◌, ◌&&◌, ◌+◌, ◌-◌}
use Rattle.sc_tags.proofs.Common.{cases_lt, slice_get_within, ⊎_elim, ◌/◌, ◌<◌, ◌∙◌, ◌∷◌, ◌≡◌, ◌≤◌}
use Rattle.sc_image.specs.declared.parts.CompPart.{CompPart}
use Rattle.sc_tags.specs.Prelude.{is_data_byte}
use Rattle.sc_tags.specs.TagHart.{has_data_at}

-- a place in a list
there : {A : Type 0} (xs : List A) (i : ℕ) → is_some (slice_get xs i) ≡ nat_lt i (length xs)
there [] i = sym (le-ltb i 0 (omega arith))
there (x ∷ xs) zero = sym (lt-ltb 0 (suc (length xs)) (omega arith))
there (x ∷ xs) (suc i) = there xs i ∙ grind (arith, nat_tests)

none_either : (b : Bool) (none : Option ℕ) → none ≡ None → is_some (if b then none else None) ≡ false
none_either true none is = ap is_some is
none_either false none is = refl

module _ (image : ImageParts) (word : ℕ) (aligned : word % 4 ≡ 0) where
  pub code_low : word < 0x01000000 → is_some (word_at image (comp_of_code word) word) ≡ false
  unfolding word_at
  code_low low =
      rw (eq-eqb (word % 4) 0 aligned, lt-leb (code_start (comp_of_code word)) word (omega (arith, low))) refl

  pub code_nobody : slice_get image.comps (comp_of_code word) ≡ None →
      is_some (word_at image (comp_of_code word) word) ≡ false
  unfolding word_at
  code_nobody none = rw none (none_either _ _ refl)

  pub code_there : (comp : CompPart) → slice_get image.comps (comp_of_code word) ≡ Some comp → 0x01000000 ≤ word →
      is_some (word_at image (comp_of_code word) word) ≡
      nat_lt ((word - 0x01000000) % 0x100000 / 4) (length comp.code)
  unfolding word_at
  code_there comp found from =
      let place : (word - code_start (comp_of_code word)) / 4 ≡ (word - 0x01000000) % 0x100000 / 4 =
      omega (arith, from) in
      rw (eq-eqb (word % 4) 0 aligned, le-leb (code_start (comp_of_code word)) word (omega (arith, from)), found)
      (there comp.code _ ∙ ap (λ i. nat_lt i (length comp.code)) place)

module _ (image : ImageParts) (at : ℕ) where
  pub data_low : at < 0x10000000 → is_data_byte image at ≡ false
  data_low low = ap (λ b. nat_lt (comp_of_data at) (length image.comps) && b)
      (one_is image (comp_of_data at) at ∙ owns_is image (comp_of_data at) at ∙ grind (arith, nat_tests)) ∙ no _
    where
      no : (b : Bool) → (b && false) ≡ false
      no true = refl
      no false = refl

  pub data_nobody : slice_get image.comps (comp_of_data at) ≡ None → is_data_byte image at ≡ false
  data_nobody none = rw (sym (there image.comps (comp_of_data at)) ∙ ap is_some none) refl

  pub data_there : (comp : CompPart) → slice_get image.comps (comp_of_data at) ≡ Some comp → 0x10000000 ≤ at →
      comp_of_data at < length image.comps →
      is_data_byte image at ≡ has_data_at comp ((at - 0x10000000) % 0x100000)
  data_there comp found from within =
      rw (lt-ltb (comp_of_data at) (length image.comps) within)
      (one_is image (comp_of_data at) at ∙ owns_is image (comp_of_data at) at ∙ rw found (grind (arith, nat_tests)))

-- Tags, byte by byte.

module _ (tags : ℕ → ByteTag) (wanted : ByteTag) (a : ℕ) where
  pub not_all : (place size : ℕ) → place < size → is_tag wanted (tags (a + place)) ≡ false →
      all_tagged tags wanted a size ≡ false
  unfolding all_tagged
  not_all place zero within other = absurd (omega (arith, within))
  not_all place (suc size) within other = ⊎_elim
      (λ below. rw (not_all place size below other) refl)
      (λ from. let last : place ≡ size = omega (arith, from, within) in
      ap (λ k. all_tagged tags wanted a size && is_tag wanted (tags (a + k))) (sym last) ∙
      rw other (none_and (all_tagged tags wanted a size))) (cases_lt place size)
    where
      none_and : (b : Bool) → (b && false) ≡ false
      none_and true = refl
      none_and false = refl

  pub all_more : (place : ℕ) → all_tagged tags wanted a place ≡ true → is_tag wanted (tags (a + place)) ≡ true →
      all_tagged tags wanted a (place + 1) ≡ true
  unfolding all_tagged
  all_more place all here =
      let more : place + 1 ≡ suc place = omega arith in
      ap (all_tagged tags wanted a) more ∙ rw (all, here) refl
