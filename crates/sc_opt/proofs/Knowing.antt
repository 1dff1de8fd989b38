-- The constants of temporaries, in rising order.
use Rattle.std.proofs.Common.{Bool, List, None, Option, [], ap, false, ltb-false, ltb-true, map, nat_lt, refl}
use Rattle.std.proofs.Common.{arith, sym, true, zero-add, ℕ, ◌++◌, ◌+◌, ◌∙◌, ◌∷◌, ◌≡◌}
use Rattle.std.proofs.lemmas.List.FromFn.{map-range_with_len_more}
use Rattle.std.specs.List.{range_with_len}
use Rattle.std.specs.Option.{unwrap_or}
use Rattle.sc_tac.specs.declared.stmt.Constant.{Constant}
use Rattle.sc_opt.specs.Pass.{constant_by, constants_below, known_constant}
use Rattle.sc_opt.specs.Tables.{constant_at}
use Rattle.sc_opt.specs.declared.facts.Assigned.{Assigned}
use Rattle.sc_opt.proofs.AllKnown.{here, lower, none_above}
use Rattle.sc_opt.proofs.Telling.{ranged, ranged_out}

module _ (table : ℕ → Assigned) (t : ℕ) where
  abbrev known : List (Option Constant)
  known = map (known_constant table) (range_with_len 0 t)

  below : (u : ℕ) (b : Bool) → nat_lt u t ≡ b → constant_at known u ≡ constants_below table t u
  below u true is = ap (λ o. unwrap_or o None) (ranged (known_constant table) 0 t u (ltb-true u t is))
      ∙ ap (known_constant table) (same u) ∙ sym (lower table t u (ltb-true u t is)) where
        same : (u : ℕ) → 0 + u ≡ u
        same u = omega arith
  below u false is = ap (λ o. unwrap_or o None) (ranged_out (known_constant table) 0 t u (ltb-false u t is))
      ∙ sym (none_above table t u (ltb-false u t is))

  next_constant : constant_by (constant_at known) (table t) ≡ known_constant table t
  next_constant = (λ i. constant_by (λ u. below u (nat_lt u t) refl i) (table t)) ∙ sym (here table t)

-- one more
pub one_more : (table : ℕ → Assigned) (t : ℕ) (constants : List (Option Constant)) (constant : Option Constant) →
    constants ≡ map (known_constant table) (range_with_len 0 t) →
    constant ≡ constant_by (constant_at constants) (table t) →
    constants ++ constant ∷ [] ≡ map (known_constant table) (range_with_len 0 (t + 1))
one_more table t constants constant is found =
    (λ i. is i ++ (found ∙ ap (λ l. constant_by (constant_at l) (table t)) is ∙ next_constant table t) i ∷ [])
    ∙ sym (map-range_with_len_more (known_constant table) 0 t t (zero-add t))
