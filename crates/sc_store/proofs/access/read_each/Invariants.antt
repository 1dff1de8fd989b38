use Rattle.sc_store.proofs.Common.{Some, get_or, ℕ, ◌+◌, ◌<◌, ◌≡◌}
use Rattle.sc_store.proofs.access.read_each.Given as goal

-- the bytes so far
abbrev pub invariant-loop-k : goal.invariant-loop-k
invariant-loop-k g l = (j : ℕ) → j < l.k → g.S.Access.bytes l.store (l.at + j) ≡ Some (get_or l.into j 0)
