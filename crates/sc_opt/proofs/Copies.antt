-- Each temporary that is read elsewhere is a copy, and is read where its source is.
use Rattle.std.proofs.Common.{Bool, ap, arith, eq-eqb, eqb-true, false, if◌then◌else◌, inl, inr, ltb-true, nat_lt, refl}
use Rattle.std.proofs.Common.{suc, sym, true, zero, ℕ, ◌<◌, ◌==◌, ◌∙◌, ◌≡◌, ◌⊎◌}
use Rattle.sc_opt.specs.Pass.{copies_one, is_once, source_by, copy_source, copy_sources}
use Rattle.sc_opt.proofs.Joined.{not_same}
use Rattle.sc_opt.proofs.Agreement.{AreSources, Moved}
use Rattle.sc_opt.specs.declared.facts.Assigned.{Assigned}
use Rattle.sc_opt.specs.declared.facts.Assigned.TheVariants.{ByConstant, ByCopy, ByOperator, Nowhere, Otherwise}
use Rattle.sc_opt.specs.declared.facts.Assigned.TheVariants.{Several}

module _ (table : ℕ → Assigned) (used holds_word : ℕ → Bool) where
  abbrev IsSource : ℕ → Type 0
  IsSource t = (copy_source table t ≡ t) ⊎ Moved table (copy_source table) used holds_word t

  pub here : (t : ℕ) → copy_source table t ≡ source_by table (copy_sources table t) t (table t)
  here t = ap (λ b. if b then source_by table (copy_sources table t) t (table t) else copy_sources table t t)
      (eq-eqb t t refl)

  nothing_below : (t : ℕ) → t < 0 → ⊥
  nothing_below t h = omega (arith, h)

  strict : (n t : ℕ) → t < suc n → (t ≡ n → ⊥) → t < n
  strict n t h other = omega (arith, h, other)

  -- what is known below a number doesn't change
  pub lower : (n t : ℕ) → t < n → copy_sources table n t ≡ copy_source table t
  lower zero t h = absurd (nothing_below t h)
  lower (suc n) t h = by (t == n) refl (lower n t) where
    by : (b : Bool) → (t == n) ≡ b → (t < n → copy_sources table n t ≡ copy_source table t) → copy_sources table
        (suc n) t ≡ copy_source table t
    by true is less = ap (λ m. copy_sources table (suc m) t) (sym (eqb-true t n is))
    by false is less = ap (λ b. if b then source_by table (copy_sources table n) n
        (table n) else copy_sources table n t) is
        ∙ less (strict n t h (not_same {B = ⊥} t n is))

  -- where a temporary isn't a copy of one that is assigned in one place
  pub at_home : (t : ℕ) → copies_one table (table t) ≡ false → copy_source table t ≡ t
  at_home t other = here t ∙ by (table t) other where
    by : (x : Assigned) → copies_one table x ≡ false → source_by table (copy_sources table t) t x ≡ t
    by Nowhere h = refl
    by (ByConstant c) h = refl
    by (ByCopy u) h = ap (λ b. if b then (if nat_lt u t then copy_sources table t u else (if copies_one table
        (table u) then t else u))
        else t) h
    by (ByOperator o left right) h = refl
    by Otherwise h = refl
    by Several h = refl

  module _ (t : ℕ) (before : (u : ℕ) → u < t → IsSource u) where
    copied : (u : ℕ) → table t ≡ ByCopy u → is_once (table u) ≡ true → IsSource t
    copied u is once = by (nat_lt u t) refl where
      start : copy_source table t ≡ (if nat_lt u t then copy_sources table t u else (if copies_one table
          (table u) then t else u))
      start = here t ∙ ap (source_by table (copy_sources table t) t) is ∙ ap (λ b. if b then
          (if nat_lt u t then copy_sources table t u else (if copies_one table (table u) then t else u)) else t) once

      with_source : copy_source table t ≡ copy_source table u → is_once (table (copy_source table u)) ≡ true →
          IsSource t
      with_source same one = inr (record {
        from = u;
        copies = is;
        same = same;
        once = ap (λ x. is_once (table x)) same ∙ one;
      })

      source_once : ((copy_source table u ≡ u) ⊎ Moved table (copy_source table) used holds_word u) → is_once (table
          (copy_source table u)) ≡ true
      source_once (inl same) = ap (λ x. is_once (table x)) same ∙ once
      source_once (inr m) = m.once

      upwards : nat_lt u t ≡ false → (c : Bool) → copies_one table (table u) ≡ c → IsSource t
      upwards up true c = inl (start ∙ ap (λ b. if b then copy_sources table t u else (if copies_one table
          (table u) then t else u)) up
          ∙ ap (λ b. if b then t else u) c)
      upwards up false c =
          let home = at_home u c in
          let to : copy_source table t ≡ u = start ∙ ap (λ b. if b then copy_sources table t u else
          (if copies_one table (table u) then t else u)) up ∙ ap (λ b. if b then t else u) c in
          with_source (to ∙ sym home) (ap (λ x. is_once (table x)) home ∙ once)

      by : (b : Bool) → nat_lt u t ≡ b → IsSource t
      by true down =
          let below = ltb-true u t down in
          with_source (start ∙ ap (λ b. if b then copy_sources table t u else (if copies_one table
          (table u) then t else u)) down
          ∙ lower t u below) (source_once (before u below))
      by false up = upwards up (copies_one table (table u)) refl

    one_more : (x : Assigned) → table t ≡ x → IsSource t
    one_more Nowhere is = inl (at_home t (ap (copies_one table) is))
    one_more (ByConstant c) is = inl (at_home t (ap (copies_one table) is))
    one_more (ByCopy u) is = by (is_once (table u)) refl where
      by : (b : Bool) → is_once (table u) ≡ b → IsSource t
      by true once = copied u is once
      by false n = inl (at_home t (ap (copies_one table) is ∙ n))
    one_more (ByOperator o left right) is = inl (at_home t (ap (copies_one table) is))
    one_more Otherwise is = inl (at_home t (ap (copies_one table) is))
    one_more Several is = inl (at_home t (ap (copies_one table) is))

  below : (n t : ℕ) → t < n → IsSource t
  below zero t h = absurd (nothing_below t h)
  below (suc n) t h = one_more t (λ u less. below n u (omega (arith, h, less))) (table t) refl

  pub all_sourced : AreSources table (copy_source table) used holds_word
  all_sourced t = below (suc t) t (omega arith)
