use Rattle.std.proofs.Common.{rules}
use Rattle.sc_tags.proofs.TagRuns.{called_again, sum_of_calls}
use Rattle.sc_tags.proofs.machine.TagMachine.run.Goals as goal

pub returns-clause-run : goal.returns-clause-run
returns-clause-run g c = search rules

pub returns-clause-image : goal.returns-clause-image
returns-clause-image g c = search rules

pub returns-clause-ranges : goal.returns-clause-ranges
returns-clause-ranges g c = search rules

pub returns-clause-inputs : goal.returns-clause-inputs
returns-clause-inputs g c = search rules

pub returns-clause-events : goal.returns-clause-events
returns-clause-events g c = search rules

pub returns-clause-again : goal.returns-clause-again
returns-clause-again g c earlier made =
    let old = c.args.self.now in
    rw (returns-clause-image g c, returns-clause-ranges g c, returns-clause-inputs g c, returns-clause-events g c)
    (called_again old.machine.image old.ranges old.machine.inputs old.machine.events c.args.steps _ _
    (returns-clause-run g c) earlier made)

pub returns-clause-any_calls : goal.returns-clause-any_calls
returns-clause-any_calls g c earlier made =
    let old = c.args.self.now in
    sum_of_calls old.machine.image old.ranges old.machine.inputs old.machine.events c.args.steps _ _
    (returns-clause-run g c) earlier made
