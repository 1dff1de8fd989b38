use Rattle.std.proofs.Common.{◌≡◌, ℕ, [], length, slice_index_or, ◌-◌, suc}
use Rattle.sc_policy.proofs.index.Index.extend.Given as goal

abbrev pub invariant-loop-alloc : goal.invariant-loop-alloc
invariant-loop-alloc l = (other : ℕ) → slice_index_or l.self-inside.places.items other [] ≡
    slice_index_or l.initial.self-inside.places.items other []

abbrev pub decreases-loop-alloc : goal.decreases-loop-alloc
decreases-loop-alloc l = suc l.state - length l.self-inside.places.items
