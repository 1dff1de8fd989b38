-- Tests that are joined by `&&`, from their parts and into them, and one that another asks for. std has `and_from`,
-- `and_parts`, `or_from`, `or_parts`, `or_left` and `or_right`. And what stands in a value that is there.
use Rattle.sc_base.proofs.Common.{Bool, IsSome, None, Option, Some, and_parts, false, not, refl, true, ◌&&◌, ◌||◌, ◌≡◌}

pub and_first : (a b : Bool) → (a && b) ≡ true → a ≡ true
and_first a b h = (and_parts a b h).0

pub and_rest : (a b : Bool) → (a && b) ≡ true → b ≡ true
and_rest a b h = (and_parts a b h).1

pub implies : (a b : Bool) → (a ≡ true → b ≡ true) → (not a || b) ≡ true
implies true b h = h refl
implies false b h = refl

pub implied : (a b : Bool) → (not a || b) ≡ true → a ≡ true → b ≡ true
implied true b h is = h
implied false b h is = absurd (cc is)

pub some_value : {A : Type 0} (o : Option A) → IsSome o → (x : A) × (o ≡ Some x)
some_value None h = absurd (cc)
some_value (Some x) h = (x, refl)
