use Rattle.sc_store.proofs.Common.{take, written, ◌≡◌}
use Rattle.sc_store.proofs.access.write_each.Given as goal

-- the bytes so far
abbrev pub invariant-loop-k : goal.invariant-loop-k
invariant-loop-k g l = g.S.Access.bytes l.store ≡ written (g.S.Access.bytes l.initial.store) l.at (take l.k l.from)
