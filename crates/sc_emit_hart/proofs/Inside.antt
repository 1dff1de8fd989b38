-- Code lies low, at multiples of 4.
use Rattle.sc_emit_hart.proofs.Common.{Bool, ImageParts, IsWellFormed, None, Option, Some, [], and_parts, arith}
use Rattle.sc_emit_hart.proofs.Common.{code_in, code_start, eqb-true, false, if◌then◌else◌, leb-true, nat_eq, nat_le}
use Rattle.sc_emit_hart.proofs.Common.{refl, slice_get, true, word_at, ℕ, ◌%◌, ◌&&◌, ◌*◌, ◌-◌, ◌/◌, ◌<◌, ◌^◌, ◌≡◌, ◌≤◌}
use Rattle.std.specs.Option.{option_map_or}
use Rattle.std.proofs.lemmas.Option.{slice_get_within}
use Rattle.sc_image.specs.declared.parts.CompPart.{CompPart}

pub record IsInside (a : ℕ) : Type 0 where
  pub aligned : a % 4 ≡ 0
  pub low : a < 2 ^ 26

record IsBelow (c i : ℕ) : Type 0 where
  comp : c < 32
  word : 4 * i < 1048576

module _ (image : ImageParts) (formed : IsWellFormed image) where
  in_comp : (c i w : ℕ) (comp : Option CompPart) → slice_get image.comps c ≡ comp →
      slice_get (option_map_or (λ (x : CompPart). x.code) comp []) i ≡ Some w → IsBelow c i
  in_comp c i w None is h = let none : ◌≡◌ {A = Option ℕ} None (Some w) = h in cc none
  in_comp c i w (Some comp) is h = record {
    comp = omega (arith, slice_get_within image.comps c comp is, formed.few_comps);
    word = omega (arith, slice_get_within comp.code i w h, (formed.comps c comp is).short_code);
  }

  by_place : (c a w : ℕ) (b : Bool) → (nat_eq (a % 4) 0 && nat_le (code_start c) a) ≡ b →
      (if b then slice_get (code_in image c) ((a - code_start c) / 4) else None) ≡ Some w → IsInside a
  by_place c a w true e h =
      let both = and_parts (nat_eq (a % 4) 0) (nat_le (code_start c) a) e in
      let aligned : a % 4 ≡ 0 = eqb-true (a % 4) 0 both.0 in
      let from : code_start c ≤ a = leb-true (code_start c) a both.1 in
      let below : IsBelow c ((a - code_start c) / 4) =
      in_comp c ((a - code_start c) / 4) w (slice_get image.comps c) refl h in
      record { aligned = aligned; low = omega (arith, aligned, from, below.comp, below.word) }
  by_place c a w false e h = let none : ◌≡◌ {A = Option ℕ} None (Some w) = h in cc none

  pub code_inside : (c a w : ℕ) → word_at image c a ≡ Some w → IsInside a
  unfolding word_at
  code_inside c a w h = by_place c a w (nat_eq (a % 4) 0 && nat_le (code_start c) a) refl h
