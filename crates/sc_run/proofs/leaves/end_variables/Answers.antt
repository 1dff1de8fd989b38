use Rattle.sc_run.proofs.Numbers.{numbers_cleared}
use Rattle.sc_run.proofs.leaves.end_variables.Goals as goal

pub invariant_of-machine : goal.invariant_of-machine
invariant_of-machine c =
    record {
      numbers = numbers_cleared c.args.frame.now.scope.comp.now c.first_block-first.result c.variable_count.result
          c.end.ensures c.args.machine.now.numbers;
    }
