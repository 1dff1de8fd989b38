-- What holds of each of some elements holds of each in a part.
use Rattle.sc_emit_relation.proofs.Common.{All, All-cons, All-head, All-nil, All-tail, List, [], ◌++◌, ◌∷◌}

module _ {X : Type 0} (P : X → Type 0) where
  pub all_prefix : (xs ys : List X) → All P (xs ++ ys) → All P xs
  all_prefix [] ys h = All-nil P
  all_prefix (x ∷ xs) ys h = All-cons P x xs (All-head P x (xs ++ ys) h) (all_prefix xs ys (All-tail P x (xs ++ ys) h))

  pub all_back : (xs ys : List X) → All P (xs ++ ys) → All P ys
  all_back [] ys h = h
  all_back (x ∷ xs) ys h = all_back xs ys (All-tail P x (xs ++ ys) h)
