-- The sources of temporaries, in rising order.
use Rattle.std.proofs.Common.{Bool, List, [], ap, arith, false, if◌then◌else◌, ltb-true, map}
use Rattle.std.proofs.Common.{nat_lt}
use Rattle.std.proofs.Common.{refl, sym, true, zero-add, ℕ, ◌++◌, ◌+◌, ◌<◌, ◌∙◌, ◌∷◌, ◌≡◌}
use Rattle.std.proofs.lemmas.List.FromFn.{map-range_with_len_more}
use Rattle.std.specs.List.{range_with_len}
use Rattle.std.specs.Option.{unwrap_or}
use Rattle.sc_opt.specs.Pass.{copies_one, copy_source, copy_sources, is_once, source_by}
use Rattle.sc_opt.specs.Tables.{source_at}
use Rattle.sc_opt.specs.declared.facts.Assigned.{Assigned}
use Rattle.sc_opt.specs.declared.facts.Assigned.TheVariants.{ByConstant, ByCopy, ByOperator, Nowhere, Otherwise}
use Rattle.sc_opt.specs.declared.facts.Assigned.TheVariants.{Several}
use Rattle.sc_opt.proofs.Copies.{here, lower}
use Rattle.sc_opt.proofs.Telling.{ranged}

module _ (table : ℕ → Assigned) (t : ℕ) where
  abbrev known : List ℕ
  known = map (copy_source table) (range_with_len 0 t)

  below : (u : ℕ) → u < t → source_at known u ≡ copy_sources table t u
  below u less = ap (λ o. unwrap_or o u) (ranged (copy_source table) 0 t u less) ∙ ap (copy_source table) (same u)
      ∙ sym (lower table (λ t. true) (λ t. true) t u less) where
        same : (u : ℕ) → 0 + u ≡ u
        same u = omega arith

  either : (u : ℕ) (once b : Bool) → nat_lt u t ≡ b → (other : ℕ) →
      (if once then (if b then source_at known u else other) else t)
      ≡ (if once then (if b then copy_sources table t u else other) else t)
  either u true true is other = below u (ltb-true u t is)
  either u true false is other = refl
  either u false b is other = refl

  by_known : (x : Assigned) → source_by table (source_at known) t x ≡ source_by table (copy_sources table t) t x
  by_known (ByCopy u) = either u (is_once (table u)) (nat_lt u t) refl (if copies_one table (table u) then t else u)
  by_known Nowhere = refl
  by_known (ByConstant c) = refl
  by_known (ByOperator o left right) = refl
  by_known Otherwise = refl
  by_known Several = refl

  next_source : source_by table (source_at known) t (table t) ≡ copy_source table t
  next_source = by_known (table t) ∙ sym (here table (λ t. true) (λ t. true) t)

-- one more
pub one_more : (table : ℕ → Assigned) (t : ℕ) (sources : List ℕ) (source : ℕ) →
    sources ≡ map (copy_source table) (range_with_len 0 t) →
    source ≡ source_by table (source_at sources) t (table t) →
    sources ++ source ∷ [] ≡ map (copy_source table) (range_with_len 0 (t + 1))
one_more table t sources source is found =
    (λ i. is i ++ (found ∙ ap (λ l. source_by table (source_at l) t (table t)) is ∙ next_source table t) i ∷ [])
    ∙ sym (map-range_with_len_more (copy_source table) 0 t t (zero-add t))
