use Rattle.sc_blocks.proofs.Common.{length, memory_of, suc, ◌-◌, ◌≡◌}
use Rattle.sc_blocks.proofs.blocks.Blocks.make_row.Given as goal

abbrev pub invariant-loop-comp : goal.invariant-loop-comp
invariant-loop-comp l = memory_of l.self-inside.rows.items ≡ memory_of l.fn.self

abbrev pub decreases-loop-comp : goal.decreases-loop-comp
decreases-loop-comp l = suc l.comp - length l.self-inside.rows.items
