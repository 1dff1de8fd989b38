-- Parts of concatenated lists, lists that were mapped, and sums.
use Rattle.sc_compile.proofs.Common.{List, Some, [], ap, arith, drop, length, map, refl, slice_get, suc, take, total}
use Rattle.sc_compile.proofs.Common.{zero, ℕ, ◌++◌, ◌+◌, ◌∷◌, ◌≡◌}

module _ {A : Type 0} where
  pub take_prefix : (xs ys : List A) → take (length xs) (xs ++ ys) ≡ xs
  take_prefix [] ys = refl
  take_prefix (x ∷ xs) ys = ap (λ rest. x ∷ rest) (take_prefix xs ys)

  pub drop_prefix : (xs ys : List A) → drop (length xs) (xs ++ ys) ≡ ys
  drop_prefix [] ys = refl
  drop_prefix (x ∷ xs) ys = drop_prefix xs ys

pub mapped : {A B : Type 0} (g : A → B) (xs : List A) (n : ℕ) (y : B) → slice_get (map g xs) n ≡ Some y →
    (x : A) × ((slice_get xs n ≡ Some x) × (g x ≡ y))
mapped g [] n y h = absurd (cc)
mapped g (x ∷ xs) zero y h = (x, (refl, cc))
mapped g (x ∷ xs) (suc n) y h = mapped g xs n y h

pub map_twice : {A B C : Type 0} (g : B → C) (f : A → B) (xs : List A) → map g (map f xs) ≡ map (λ x. g (f x)) xs
map_twice g f [] = refl
map_twice g f (x ∷ xs) = ap (λ rest. g (f x) ∷ rest) (map_twice g f xs)

pub total_append : (xs ys : List ℕ) → total (xs ++ ys) ≡ total xs + total ys
total_append [] ys = omega arith
total_append (x ∷ xs) ys = let rest : total (xs ++ ys) ≡ total xs + total ys = total_append xs ys in
    omega (arith, rest)
