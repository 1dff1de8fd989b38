use Rattle.sc_tags.specs.CodeBytes.{code_regions}
use Rattle.std.proofs.Common.{take, ◌≡◌}
use Rattle.sc_tags.proofs.memory.code_regions.Given as goal

abbrev pub invariant-loop-number : goal.invariant-loop-number
invariant-loop-number l = l.regions.items ≡ code_regions 0 (take l.number l.comps)
