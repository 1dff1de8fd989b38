-- Equality of texts.
use Rattle.sc_types_interfaces.proofs.Common.{List, nat_list_eq_equiv, pointwise, ℕ, ◌==◌, ◌≡◌}

pub texts-sym : (xs ys : List ℕ) → pointwise ◌==◌ xs ys ≡ pointwise ◌==◌ ys xs
texts-sym xs ys = nat_list_eq_equiv.symm xs ys

pub ruleset texts = texts-sym
