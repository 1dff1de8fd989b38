-- The code of a compartment has no gaps.
use Rattle.sc_emit.proofs.Common.{Bool, CodeAt, HasNoGap, ImageParts, Instr, List, None, Option, Running, Setting, Some}
use Rattle.sc_emit.proofs.Common.{[], and_parts, arith, code_start, eq-eqb, false, if◌then◌else◌, is_there, le-leb}
use Rattle.sc_emit.proofs.Common.{leb-true, length, nat_eq, nat_le, refl, slice_get, slice_get_within, some_value}
use Rattle.sc_emit.proofs.Common.{subst, suc, true, word_at, zero, ℕ, ◌%◌, ◌&&◌, ◌*◌, ◌+◌, ◌-◌, ◌/◌, ◌<◌, ◌∙◌, ◌∷◌, ◌≡◌}
use Rattle.sc_emit.proofs.Common.{◌≤◌}
use Rattle.sc_image.specs.Prelude.{code_in}

-- each instruction of code is a word
pub word_in : (image : ImageParts) (c : ℕ) (instrs : List Instr) (pc k : ℕ) → k < length instrs →
    CodeAt image c pc instrs → (word : ℕ) × (word_at image c (pc + 4 * k) ≡ Some word)
word_in image c [] pc k less code = absurd (omega (arith, less))
word_in image c (instr ∷ instrs) pc zero less code =
    let here : pc ≡ pc + 4 * 0 = omega arith in
    (code.0.word, subst (λ a. word_at image c a ≡ Some code.0.word) here code.0.fetched)
word_in image c (instr ∷ instrs) pc (suc k) less code =
    let there : pc + 4 + 4 * k ≡ pc + 4 * suc k = omega arith in
    subst (λ a. (word : ℕ) × (word_at image c a ≡ Some word)) there
    (word_in image c instrs (pc + 4) k (omega (arith, less)) code.1)

module _ (image : ImageParts) (c : ℕ) where
  -- an address of a word
  record IsWordOf (a : ℕ) : Type 0 where
    from : code_start c ≤ a
    within : (a - code_start c) / 4 < length (code_in image c)

  by_place : (a w : ℕ) (b : Bool) → (nat_eq (a % 4) 0 && nat_le (code_start c) a) ≡ b →
      (if b then slice_get (code_in image c) ((a - code_start c) / 4) else None) ≡ Some w → IsWordOf a
  by_place a w true e h = record {
    from = leb-true (code_start c) a (and_parts (nat_eq (a % 4) 0) (nat_le (code_start c) a) e).1;
    within = slice_get_within (code_in image c) ((a - code_start c) / 4) w h;
  }
  by_place a w false e h = let none : ◌≡◌ {A = Option ℕ} None (Some w) = h in cc none

  is_word_of : (a w : ℕ) → word_at image c a ≡ Some w → IsWordOf a
  unfolding word_at
  is_word_of a w h = by_place a w (nat_eq (a % 4) 0 && nat_le (code_start c) a) refl h

  at_place : (a : ℕ) → a % 4 ≡ 0 → code_start c ≤ a →
      word_at image c a ≡ slice_get (code_in image c) ((a - code_start c) / 4)
  unfolding word_at
  at_place a aligned from = rw (eq-eqb (a % 4) 0 aligned, le-leb (code_start c) a from) refl

  between : (p a last v w : ℕ) → word_at image c p ≡ Some v → word_at image c last ≡ Some w → p ≤ a → a ≤ last →
      a % 4 ≡ 0 → (word : ℕ) × (word_at image c a ≡ Some word)
  between p a last v w first end above below aligned =
      let low : IsWordOf p = is_word_of p v first in
      let high : IsWordOf last = is_word_of last w end in
      let from : code_start c ≤ a = omega (arith, low.from, above) in
      let word = is_there (code_in image c) ((a - code_start c) / 4) (omega (arith, high.within, below)) in
      (word.0, at_place a aligned from ∙ word.1)

-- up to a word of code there is none
pub no_gap : (T : Setting) (R : Running) (w : ℕ) → word_at T.image R.activation.here.comp R.last ≡ Some w → HasNoGap T R
no_gap T R w end p a first above below aligned =
    let v = some_value (word_at T.image R.activation.here.comp p) first in
    between T.image R.activation.here.comp p a R.last v.0 w v.1 end above below aligned
