use Rattle.sc_machine.proofs.Common.{map, word_of}
use Rattle.sc_machine.proofs.execute.execute_other.Goals as goal

pub returns-in-Jalr-clause-outcome : goal.returns-in-Jalr-clause-outcome
returns-in-Jalr-clause-outcome g c = rw c.in-Jalr.is (c.jalr.ensures.outcome (map word_of c.args.inputs.now)
    (g.S.Store.bytes c.args.memory.now))
