-- Sets of temporaries as lists.
use Rattle.sc_live.proofs.Common.{List, None, Option, TempSet, Some, [], ap, arith, filter, is_one, not, one_or_none}
use Rattle.sc_live.proofs.Common.{set_of, sym, ℕ, ◌&&◌, ◌==◌, ◌∙◌, ◌∷◌, ◌≡◌}

removed_one : (temp t : ℕ) (xs : List ℕ) →
    is_one t (filter (λ x. not (x == temp)) xs) ≡ (not (temp == t) && is_one t xs)
removed_one temp t [] = grind arith
removed_one temp t (x ∷ xs) = grind (arith, removed_one temp t xs)

pub removed : (temp t : ℕ) (xs ys : List ℕ) → ys ≡ filter (λ x. not (x == temp)) xs →
    is_one t ys ≡ (not (temp == t) && is_one t xs)
removed temp t xs ys is = ap (is_one t) is ∙ removed_one temp t xs

pub set_is : (f g : TempSet) → ((t : ℕ) → f t ≡ g t) → f ≡ g
set_is f g h = λ i t. h t i

one_is : (t temp : ℕ) → (temp == t) ≡ is_one t (temp ∷ [])
one_is t temp = grind arith

pub one_assigned : (assigned : Option ℕ) (temp : ℕ) (before after : List ℕ) (set : TempSet) → assigned ≡ Some temp →
    ((t : ℕ) → is_one t after ≡ (not (temp == t) && is_one t before)) → set_of before ≡ set →
    set_of after ≡ (λ t. not (is_one t (one_or_none assigned)) && set t)
one_assigned assigned temp before after set some h is = λ i t.
    (h t
    ∙ ap (λ b. not b && is_one t before) (one_is t temp ∙ ap (λ a. is_one t (one_or_none a)) (sym some))
    ∙ ap (λ s. not (is_one t (one_or_none assigned)) && s t) is) i

pub none_assigned : (assigned : Option ℕ) (before : List ℕ) (set : TempSet) → assigned ≡ None → set_of before ≡ set →
    set_of before ≡ (λ t. not (is_one t (one_or_none assigned)) && set t)
none_assigned assigned before set none is =
    is ∙ ap (λ a. λ t. not (is_one t (one_or_none a)) && set t) (sym none)
