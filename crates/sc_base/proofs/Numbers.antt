-- The first places of names in a list, and in that list with one more name.
use Rattle.sc_base.proofs.Common.{Bool, HasPlaces, IndexMap, List, None, Option, Some, Updates, [], ap, arith, cond}
use Rattle.sc_base.proofs.Common.{false, get, is_numbered, is_some, length, list_any, nat_eq, number_by_name, pointwise}
use Rattle.sc_base.proofs.Common.{position_from, refl, same_text, suc, sym, true, true≢false, ℕ, ◌++◌, ◌+◌, ◌==◌, ◌||◌}
use Rattle.sc_base.proofs.Common.{◌∙◌, ◌∷◌, ◌≡◌}
use Rattle.std.proofs.lemmas.Cmp.{nat_list_eq_equiv}
use Rattle.std.proofs.lemmas.Iterator.Adapters.{position_from-zero}

-- the first place, or else this place, where it passes
abbrev pub or_after : Option ℕ → Bool → ℕ → Option ℕ
or_after (Some i) passes place = Some i
or_after None passes place = cond passes (Some place) None

more-following : (b passes : Bool) (i place : ℕ) (whole part : Option ℕ) → whole ≡ or_after part passes place →
    cond b (Some i) whole ≡ or_after (cond b (Some i) part) passes place
more-following true passes i place whole part h = refl
more-following false passes i place whole part h = h

one-further : (i n : ℕ) → i + 1 + n ≡ i + suc n
one-further i n = omega arith

from-more : {X : Type 0} (p : X → Bool) (i : ℕ) (xs : List X) (x : X) →
    position_from p i (xs ++ x ∷ []) ≡ or_after (position_from p i xs) (p x) (i + length xs)
from-more p i [] x = let e : i ≡ i + 0 = omega arith in ap (λ n. cond (p x) (Some n) None) e
from-more p i (y ∷ xs) x = more-following (p y) (p x) i (i + suc (length xs)) (position_from p (i + 1) (xs ++ x ∷ []))
    (position_from p (i + 1) xs)
    (from-more p (i + 1) xs x ∙ ap (or_after (position_from p (i + 1) xs) (p x)) (one-further i (length xs)))

some-or : (b rest : Bool) (i : ℕ) (o : Option ℕ) → is_some o ≡ rest → is_some (cond b (Some i) o) ≡ (b || rest)
some-or true rest i o h = refl
some-or false rest i o h = h

from-some : {X : Type 0} (p : X → Bool) (i : ℕ) (xs : List X) → is_some (position_from p i xs) ≡ list_any p xs
from-some p i [] = refl
from-some p i (x ∷ xs) = some-or (p x) (list_any p xs) i (position_from p (i + 1) xs) (from-some p (i + 1) xs)

number-more : (names : List (List ℕ)) (name other : List ℕ) → number_by_name (names ++ name ∷ []) other ≡
    or_after (number_by_name names other) (pointwise nat_eq other name) (length names)
number-more names name other =
    position_from-zero (pointwise nat_eq other) (names ++ name ∷ [])
    ∙ (from-more (pointwise nat_eq other) 0 names name
    ∙ (ap (λ o. or_after o (pointwise nat_eq other name) (0 + length names))
    (sym (position_from-zero (pointwise nat_eq other) names))
    ∙ ap (or_after (number_by_name names other) (pointwise nat_eq other name)) (omega arith)))

-- a name that has a number is one of the names
pub has-number : (names : List (List ℕ)) (name : List ℕ) → is_some (number_by_name names name) ≡ is_numbered names name
has-number names name =
    ap is_some (position_from-zero (pointwise nat_eq name) names) ∙ from-some (pointwise nat_eq name) 0 names

pub ruleset numbers = (has-number)

-- Where the test says that they are the same, two names have the same number.
numbers-alike : (names : List (List ℕ)) (name other : List ℕ) → pointwise nat_eq other name ≡ true →
    number_by_name names other ≡ number_by_name names name
numbers-alike names name other h = ap (number_by_name names) (same_text other name (sym h))

old-place : (names : List (List ℕ)) (name other : List ℕ) (o : Option ℕ) (b : Bool) →
    is_some (number_by_name names name) ≡ true → number_by_name names other ≡ o → pointwise nat_eq other name ≡ b →
    o ≡ or_after o b (length names)
old-place names name other (Some i) b h e s = refl
old-place names name other None false h e s = refl
old-place names name other None true h e s =
    absurd (true≢false (sym h ∙ ap is_some (sym (numbers-alike names name other s) ∙ e)))

new-place : (names : List (List ℕ)) (name other : List ℕ) (o : Option ℕ) (b : Bool) →
    is_some (number_by_name names name) ≡ false → number_by_name names other ≡ o → pointwise nat_eq other name ≡ b →
    cond b (Some (length names)) o ≡ or_after o b (length names)
new-place names name other None b h e s = refl
new-place names name other (Some i) false h e s = refl
new-place names name other (Some i) true h e s =
    absurd (true≢false (ap is_some (sym e ∙ numbers-alike names name other s) ∙ h))

module _ {S : Type 0} (names : List (List ℕ)) (name : List ℕ) (places : IndexMap (List ℕ) ℕ S)
    (has : HasPlaces names places) where
  -- a name that was there
  pub known-place : is_some (get (pointwise ◌==◌) places name) ≡ true → HasPlaces (names ++ name ∷ []) places
  known-place h = record {
    at = λ other. has.at other ∙ (old-place names name other (number_by_name names other) (pointwise nat_eq other name)
        (ap is_some (sym (has.at name)) ∙ h) refl refl ∙ sym (number-more names name other));
  }

  -- a new name
  pub noted-place : (more : IndexMap (List ℕ) ℕ S) (place : ℕ) → is_some (get (pointwise ◌==◌) places name) ≡ false →
      place ≡ length names → Updates (pointwise ◌==◌) places more name (Some place) →
      HasPlaces (names ++ name ∷ []) more
  noted-place more place h e updates = record {
    at = λ other.
        updates.0 other
        ∙ (ap (λ b. cond b (Some place) (get (pointwise ◌==◌) places other)) (nat_list_eq_equiv.symm name other)
        ∙ (ap (λ n. cond (pointwise nat_eq other name) (Some n) (get (pointwise ◌==◌) places other)) e
        ∙ (ap (cond (pointwise nat_eq other name) (Some (length names))) (has.at other)
        ∙ (new-place names name other (number_by_name names other) (pointwise nat_eq other name)
        (ap is_some (sym (has.at name)) ∙ h) refl refl
        ∙ sym (number-more names name other)))));
  }
