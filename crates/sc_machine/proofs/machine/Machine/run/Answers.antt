use Rattle.std.proofs.Common.{rules}
use Rattle.sc_machine.proofs.Runs.{sum_of_calls}
use Rattle.sc_machine.proofs.machine.Machine.run.Goals as goal

pub returns-clause-run : goal.returns-clause-run
returns-clause-run g c = search rules

pub returns-clause-any_calls : goal.returns-clause-any_calls
returns-clause-any_calls g c earlier made = sum_of_calls _ _ _ _ _ _ (returns-clause-run g c) earlier made
