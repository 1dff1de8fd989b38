-- Texts that are printed piece by piece.
use Rattle.sc_report.proofs.Common.{Err, List, Ok, OnOk, Result, [], ap, append_assoc, flat_map, flat_map_more, get_or}
use Rattle.sc_report.proofs.Common.{length, sym, take, take_more, ℕ, ◌++◌, ◌+◌, ◌<◌, ◌∙◌, ◌∷◌, ◌≡◌}

-- three pieces, one after the other
pub three_pieces : {E : Type 0} (r : Result (Unit {0}) E) (old o1 o2 o3 a b c : List ℕ) → o1 ≡ old ++ a → o2 ≡ o1 ++ b →
    OnOk r (o3 ≡ o2 ++ c) → OnOk r (o3 ≡ old ++ (a ++ (b ++ c)))
three_pieces (Ok v) old o1 o2 o3 a b c first second third =
    third ∙ ap (λ x. x ++ c) (second ∙ ap (λ x. x ++ b) first) ∙ append_assoc (old ++ a) b c ∙
    append_assoc old a (b ++ c)
three_pieces (Err e) old o1 o2 o3 a b c first second third = third

-- one item more
pub flat_turn : {X : Type 0} (f : X → List ℕ) (xs : List X) (i : ℕ) (x : X) (text now : List ℕ) → i < length xs →
    x ≡ get_or xs i x →
    text ≡ flat_map f (take i xs) → now ≡ text ++ f x → now ≡ flat_map f (take (i + 1) xs)
flat_turn f xs i x text now within is before printed =
    printed ∙ ap (λ t. t ++ f x) before ∙ (flat_map_more f [] (take i xs) x ∙
    ap (flat_map f) (ap (λ y. take i xs ++ y ∷ []) is ∙ sym (take_more xs i x within)))
