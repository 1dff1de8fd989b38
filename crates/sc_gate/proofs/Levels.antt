-- The call of a level, by its place in the list of all calls, the oldest first.
use Rattle.sc_gate.specs.Waiting.{call_at}
use Rattle.sc_image.specs.Prelude.{Crossing}
use Rattle.std.proofs.lemmas.Bool.Decides.{nat_tests}
use Rattle.std.proofs.Common.{Bool, arith, List, None, Option, Some, [], ap}
use Rattle.std.proofs.Common.{false, if◌then◌else◌, length, map, nat_eq, refl, reverse}
use Rattle.std.proofs.Common.{suc, sym, true, zero, ℕ, ◌++◌, ◌∙◌, ◌∷◌, ◌≡◌}
use Rattle.std.proofs.lemmas.List.{length-map, length-reverse, reverse-append, reverse-reverse}
use Rattle.std.specs.List.{slice_get}
use Rattle.std.specs.Option.{option_map}

-- an element after the last
last_got : {A : Type 0} (xs : List A) (x : A) (i : ℕ) →
    slice_get (xs ++ x ∷ []) i ≡ (if nat_eq i (length xs) then Some x else slice_get xs i)
last_got [] x zero = refl
last_got [] x (suc i) = ap (λ b. if b then Some x else None)
    (let past : false ≡ nat_eq (suc i) 0 = grind (arith, nat_tests) in past)
last_got (y ∷ xs) x zero = ap (λ b. if b then Some x else Some y)
    (let first : false ≡ nat_eq 0 (suc (length xs)) = grind (arith, nat_tests) in first)
last_got (y ∷ xs) x (suc i) = last_got xs x i ∙ ap (λ b. if b then Some x else slice_get xs i)
    (let same : nat_eq i (length xs) ≡ nat_eq (suc i) (suc (length xs)) = grind (arith, nat_tests) in same)

module _ {A : Type 0} (f : A → Crossing) where
  picked : (same : Bool) (x : A) (o : Option A) (p : Option Crossing) → p ≡ option_map f o →
      (if same then Some (f x) else p) ≡ option_map f (if same then Some x else o)
  picked true x o p h = refl
  picked false x o p h = h

  from_last : (ys : List A) (l : ℕ) → call_at (map f ys) l ≡ option_map f (slice_get (reverse ys) l)
  from_last [] l = refl
  from_last (y ∷ ys) l =
      let few : length (map f ys) ≡ length (reverse ys) = length-map ys f ∙ sym (length-reverse ys) in
      ap (λ n. if nat_eq l n then Some (f y) else call_at (map f ys) l) few ∙
      picked (nat_eq l (length (reverse ys))) y _ _ (from_last ys l) ∙
      ap (option_map f) (sym (last_got (reverse ys) y l)) ∙
      ap (λ zs. option_map f (slice_get zs l)) (sym (reverse-append (y ∷ []) ys))

  pub call_got : (xs : List A) (l : ℕ) → option_map f (slice_get xs l) ≡ call_at (map f (reverse xs)) l
  call_got xs l = sym (from_last (reverse xs) l ∙ ap (λ zs. option_map f (slice_get zs l)) (reverse-reverse xs))
