-- What is appended is 0.
use Rattle.std.proofs.Common.{length, slice_index, ℕ, ◌-◌, ◌≡◌, ◌≤◌}
use Rattle.std.specs.Prelude.{suc, vec_capacity}
use Rattle.sc_zone.proofs.table.put.Given as goal

abbrev pub invariant-loop-table : goal.invariant-loop-table
invariant-loop-table l = record {
  numbers : (k : ℕ) → slice_index l.table.items k ≡ slice_index l.initial.table.items k;
  capacity : vec_capacity l.initial.table ≤ vec_capacity l.table;
}

abbrev pub decreases-loop-table : goal.decreases-loop-table
decreases-loop-table l = suc l.place - length l.table.items
