-- Names of which no two are the same, one more at the end.
use Rattle.sc_types_scope.proofs.Common.{Bool, List, Text, [], among, ap, are_distinct, arith, false, nat_eq, not, refl}
use Rattle.sc_types_scope.proofs.Common.{◌&&◌, ◌++◌, ◌||◌, ◌∙◌, ◌∷◌, ◌≡◌}
use Rattle.std.specs.Cmp.Lexicographic.{pointwise}
use Rattle.std.proofs.lemmas.Cmp.{nat_list_eq_equiv}
use Rattle.sc_types_scope.proofs.Lines.{among-append}

regroup : (a e d b : Bool) → (not (a || (e || false)) && (d && not b)) ≡ ((not a && d) && not (e || b))
regroup a e d b = grind arith

pub distinct-more : (names : List Text) (name : Text) →
    are_distinct (names ++ name ∷ []) ≡ (are_distinct names && not (among names name))
distinct-more [] name = refl
distinct-more (first ∷ names) name = ap (λ rest. not (among (names ++ name ∷ []) first) && rest)
    (distinct-more names name) ∙ (ap (λ b. not b && (are_distinct names && not (among names name)))
    (among-append names (name ∷ []) first) ∙ (ap (λ e. not (among names first || (e || false)) &&
    (are_distinct names && not (among names name))) (nat_list_eq_equiv.symm first name)
    ∙ regroup (among names first) (pointwise nat_eq name first) (are_distinct names) (among names name)))

pub ruleset more = (distinct-more)
