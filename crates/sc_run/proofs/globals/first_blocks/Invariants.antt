use Rattle.sc_run.proofs.Common.{globals_of, memory_of, take, ◌≡◌}
use Rattle.sc_run.proofs.globals.first_blocks.Given as goal

abbrev pub invariant-loop-at : goal.invariant-loop-at
invariant-loop-at l = memory_of l.blocks ≡ globals_of (take l.at l.sections)
