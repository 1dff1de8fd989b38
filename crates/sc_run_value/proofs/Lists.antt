-- The values of expressions, one after the other.
use Rattle.sc_run_value.proofs.Common.{Blocks, Cause, Err, List, Ok, Result, TypedExpr, Value, Ways, add-one, drop}
use Rattle.sc_run_value.proofs.Common.{drop-cons, get_or, length, sym, ℕ, ◌++◌, ◌+◌, ◌<◌, ◌∷◌, ◌≡◌}

-- values that are there already, and those that follow
abbrev pub following : List Value → Result (List Value) Cause → Result (List Value) Cause
following vs (Ok ws) = Ok (vs ++ ws)
following vs (Err cause) = Err cause

module _ (f : TypedExpr → Ways) (es : List TypedExpr) (blocks : Blocks) (i : ℕ) (e : TypedExpr) (there : i < length es)
    (item : e ≡ get_or es i e) where
  next : drop i es ≡ e ∷ drop (i + 1) es
  next = rw (add-one, drop-cons es i e) (λ k. sym item k ∷ drop (Prim.Native.Nat.suc i) es)
