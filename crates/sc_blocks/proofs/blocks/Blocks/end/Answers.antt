use Rattle.sc_blocks.proofs.Common.{arith, length, subst, ◌≤◌}
use Rattle.sc_blocks.proofs.Memories.{none_end}
use Rattle.sc_blocks.proofs.blocks.Blocks.end.Goals as goal

pub returns-else-number-len : goal.returns-else-number-len
returns-else-number-len c = none_end c.args.self.now c.args.comp c.args.first c.args.count
    (subst (λ rows. length rows ≤ c.args.comp) c.self.view_is (omega arith))
