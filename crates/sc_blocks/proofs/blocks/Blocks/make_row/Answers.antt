use Rattle.sc_blocks.proofs.Common.{◌∙◌}
use Rattle.sc_blocks.proofs.Memories.{memory_more_by}
use Rattle.sc_blocks.proofs.blocks.Blocks.make_row.Goals as goal

pub loop-comp-preserved : goal.loop-comp-preserved
loop-comp-preserved c =
    memory_more_by c.loop-comp.self-inside.rows.items c.push.new.self.items c.new.result c.new.ensures
    c.in_ok-push.ensures.items ∙ c.loop-comp.invariant
