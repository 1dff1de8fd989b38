-- A list from one of its items on, and with one item changed.
use Rattle.std.proofs.Common.{List, Some, [], ap, arith, drop, drop-cons, get_or, length, refl, slice_get, slice_set}
use Rattle.std.proofs.Common.{subst, suc, sym, zero, ℕ, ◌+◌, ◌<◌, ◌∙◌, ◌∷◌, ◌≡◌, ◌≤◌}

parted : {X : Type 0} (list : List X) (i : ℕ) (x : X) → i < length list → x ≡ get_or list i x →
    x ∷ drop (i + 1) list ≡ drop i list
parted list i x less is = (λ j. is j ∷ drop (next j) list) ∙ sym (drop-cons list i x less) where
  next : i + 1 ≡ suc i
  next = omega arith

nothing_left : {X : Type 0} (list : List X) (i : ℕ) → length list ≤ i → [] ≡ drop i list
nothing_left [] zero h = refl
nothing_left [] (suc i) h = refl
nothing_left (x ∷ rest) zero h = absurd (none (length rest) h) where
  none : (n : ℕ) → suc n ≤ 0 → ⊥
  none n h = omega (arith, h)
nothing_left (x ∷ rest) (suc i) h = nothing_left rest i (omega (arith, h))

-- also of a list that is the same
pub parted_of : {X : Type 0} (items list : List X) (i : ℕ) (x : X) → items ≡ list → i < length items →
    x ≡ get_or items i x → x ∷ drop (i + 1) list ≡ drop i list
parted_of items list i x same less is =
    subst (λ l. x ∷ drop (i + 1) l ≡ drop i l) same (parted items i x less is)

pub ended_of : {X : Type 0} (items list : List X) (i : ℕ) → items ≡ list → length items ≤ i → [] ≡ drop i list
ended_of items list i same h = subst (λ l. [] ≡ drop i l) same (nothing_left items i h)

pub set_here : {X : Type 0} (list : List X) (i : ℕ) (x : X) → i < length list →
    slice_get (slice_set list i x) i ≡ Some x
set_here [] i x h = absurd (omega arith)
set_here (y ∷ rest) zero x h = refl
set_here (y ∷ rest) (suc i) x h = set_here rest i x (omega (arith, h))

pub set_elsewhere : {X : Type 0} (list : List X) (i j : ℕ) (x : X) → (i ≡ j → ⊥) →
    slice_get (slice_set list i x) j ≡ slice_get list j
set_elsewhere [] i j x h = refl
set_elsewhere (y ∷ rest) zero zero x h = absurd (h refl)
set_elsewhere (y ∷ rest) zero (suc j) x h = refl
set_elsewhere (y ∷ rest) (suc i) zero x h = refl
set_elsewhere (y ∷ rest) (suc i) (suc j) x h = set_elsewhere rest i j x (λ e. h (ap suc e))
