-- All before this place are below it.
use Rattle.std.proofs.Common.{slice_index, ℕ, ◌<◌, ◌≤◌}
use Rattle.sc_zone.proofs.table.first_from.Given as goal

abbrev pub invariant-loop-place : goal.invariant-loop-place
invariant-loop-place l = (k : ℕ) → l.from ≤ k → k < l.place → slice_index l.table k < l.least
