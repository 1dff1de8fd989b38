-- Pieces of a run in order: of three, the first two or the last two may be taken together.
use Rattle.sc_core_laws.proofs.Common.{Break, Continue, Does, Exit, Left, Next, Piece, Reached, Return, State, Stopped}
use Rattle.sc_core_laws.proofs.Common.{follow, in_order, refl, take, ◌≡◌}

module _ {A : Type 0} where
  taken_assoc : (exit : Exit) (a : A) (s : State) (f g : Does A) →
      follow in_order (take (in_order exit) f a s) g ≡ take (in_order exit) (λ a s. follow in_order (f a s) g) a s
  taken_assoc Next a s f g = refl
  taken_assoc Break a s f g = refl
  taken_assoc Continue a s f g = refl
  taken_assoc (Return v) a s f g = refl

  pub follow_assoc : (o : Piece (Left A)) (f g : Does A) →
      follow in_order (follow in_order o f) g ≡ follow in_order o (λ a s. follow in_order (f a s) g)
  follow_assoc (Reached left s) f g = taken_assoc left.exit left.carried s f g
  follow_assoc (Stopped end s) f g = refl
