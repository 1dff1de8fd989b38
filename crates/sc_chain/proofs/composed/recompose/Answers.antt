use Rattle.sc_linker.proofs.Compartments.{few_numbers}
use Rattle.sc_chain.proofs.composed.recompose.Goals as goal

pub comp_id-requires : goal.comp_id-requires
comp_id-requires c = few_numbers c.program.result.now c.tree.ensures.typed c.loop-number.number
    (rw (c.len-number-end.ensures, c.tree.ensures.tree) at c.loop-number-test.true)
