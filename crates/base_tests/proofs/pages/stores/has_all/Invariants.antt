use Rattle.std.proofs.Common.{◌+◌, ◌<◌, ℕ, IsSome}
use Rattle.base_tests.proofs.pages.stores.has_all.Given as goal

abbrev pub invariant-loop-k : goal.invariant-loop-k
invariant-loop-k g l = (j : ℕ) → j < l.k → IsSome (g.S.Store.bytes l.store (l.at + j))
