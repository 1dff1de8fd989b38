-- Lines that are noted one after another.
use Rattle.sc_types_scope.proofs.Common.{BrokenLines, List, Option, Text, [], among, ap, line_of_text, map, map-append}
use Rattle.sc_types_scope.proofs.Common.{noted, noted_all, refl, sym, with_lines, ℕ, ◌++◌, ◌||◌, ◌∙◌, ◌∷◌, ◌≡◌}
use Rattle.std.proofs.lemmas.List.Folds.{list_any-append}

pub noted_all-append : (least : Option ℕ) (xs ys : List ℕ) →
    noted_all least (xs ++ ys) ≡ noted_all (noted_all least xs) ys
unfolding noted_all
noted_all-append least [] ys = refl
noted_all-append least (x ∷ xs) ys = noted_all-append (noted least x) xs ys

pub with_lines-nil : (broken : BrokenLines) → with_lines broken [] ≡ broken
unfolding noted_all
with_lines-nil broken = refl

pub with_lines-append : (broken : BrokenLines) (xs ys : List ℕ) →
    with_lines broken (xs ++ ys) ≡ with_lines (with_lines broken xs) ys
with_lines-append broken xs ys =
    ap (λ lines. record broken { least = noted_all broken.least lines }) (map-append (line_of_text _) xs ys)
    ∙ ap (λ least. record broken { least = least }) (noted_all-append _ (map _ xs) (map _ ys))

-- no lines leave all as it is
pub nothing : (old : BrokenLines) (xs : List ℕ) → xs ≡ [] → old ≡ with_lines old xs
nothing old xs e = sym (with_lines-nil old) ∙ ap (with_lines old) (sym e)

-- some lines, and then others
pub then : (old a b : BrokenLines) (xs ys : List ℕ) → a ≡ with_lines old xs → b ≡ with_lines a ys →
    b ≡ with_lines old (xs ++ ys)
then old a b xs ys p q = q ∙ (ap (λ x. with_lines x ys) p ∙ sym (with_lines-append old xs ys))

-- the lines noted and those of what is left are those of all, also after one step more
pub step : (old a b : BrokenLines) (xs ys all : List ℕ) → with_lines a (xs ++ ys) ≡ with_lines old all →
    b ≡ with_lines a xs → with_lines b ys ≡ with_lines old all
step old a b xs ys all p q = ap (λ x. with_lines x ys) q ∙ (sym (with_lines-append a xs ys) ∙ p)

pub done : (old a : BrokenLines) (xs all : List ℕ) → with_lines a xs ≡ with_lines old all → xs ≡ [] →
    a ≡ with_lines old all
done old a xs all p e = nothing a xs e ∙ p

-- a name is among the names of two lists
pub among-append : (xs ys : List Text) (name : Text) → among (xs ++ ys) name ≡ (among xs name || among ys name)
among-append xs ys name = list_any-append _ xs ys

pub ruleset joined = (among-append)

pub ruleset parts = (with_lines-nil)
