use Rattle.sc_frame.proofs.Common.{drop, offsets_from, total, ◌*◌, ◌++◌, ◌+◌, ◌≡◌}
use Rattle.sc_frame.proofs.frame.lay_objects.Given as goal

abbrev pub invariant-loop-count : goal.invariant-loop-count
invariant-loop-count l = record {
  laid : l.offsets ++ offsets_from l.end (drop l.count-index l.cells) ≡ offsets_from l.from l.cells;
  end : l.end + 4 * total (drop l.count-index l.cells) ≡ l.from + 4 * total l.cells;
}
