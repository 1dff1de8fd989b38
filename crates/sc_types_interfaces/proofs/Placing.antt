-- The first 8 of a list.
use Rattle.sc_types_interfaces.proofs.Common.{IfNone, List, None, Option, Some, ap, arith, false, is_some, length}
use Rattle.sc_types_interfaces.proofs.Common.{length-map, length-take-le, map, sym, take, take-map, take_all, true, ℕ}
use Rattle.sc_types_interfaces.proofs.Common.{◌<◌, ◌∙◌, ◌≡◌, ◌≤◌}

pub prefix_done : {A B : Type 0} (f : A → B) (xs : List A) (ys : List B) (i : ℕ) → ys ≡ map f (take i xs) →
    length xs ≤ i → i ≤ 8 → ys ≡ take 8 (map f xs)
prefix_done f xs ys i is past few = is ∙ (ap (map f) (take_all i xs past) ∙ sym (take_all 8 _ within)) where
  within : length (map f xs) ≤ 8
  within = omega (arith, length-map xs f)

pub prefix_full : {A B : Type 0} (f : A → B) (xs : List A) (ys : List B) (i : ℕ) → ys ≡ map f (take i xs) →
    i < length xs → i ≤ 8 → 8 ≤ length ys → ys ≡ take 8 (map f xs)
prefix_full f xs ys i is within few full = is ∙ (ap (λ n. map f (take n xs)) eight ∙ sym (take-map f 8 xs)) where
  eight : i ≡ 8
  eight = omega (arith, ap length is, length-map (take i xs) f, length-take-le i xs (omega arith))

push_full : (r : Option (Unit {0})) (n : ℕ) (P : Type 0) → is_some r ≡ false → (n < 8 → is_some r ≡ true) → IfNone r P →
    (8 ≤ n) × P
push_full None n P none room h = (omega (arith, at), h) where
  at : n < 8 → ⊥
  at few = cc (room few)
push_full (Some u) n P none room h = cc

pub prefix_stopped : {A B : Type 0} (f : A → B) (xs : List A) (ys now : List B) (i : ℕ) (r : Option (Unit {0})) →
    ys ≡ map f (take i xs) → i < length xs → i ≤ 8 →
    is_some r ≡ false → (length ys < 8 → is_some r ≡ true) → IfNone r (now ≡ ys) → now ≡ take 8 (map f xs)
prefix_stopped f xs ys now i r is within few none room same =
    let h = push_full r _ _ none room same in
    h.1 ∙ prefix_full f xs ys i is within few h.0
