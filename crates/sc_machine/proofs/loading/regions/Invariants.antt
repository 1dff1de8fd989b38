use Rattle.sc_machine.proofs.Common.{take, ◌≡◌}
use Rattle.sc_machine.specs.Regions.{store_regions}
use Rattle.sc_machine.proofs.loading.regions.Given as goal

abbrev pub invariant-loop-number : goal.invariant-loop-number
invariant-loop-number l = l.regions.items ≡ store_regions 0 (take l.number l.comps)
