use Rattle.std.proofs.Common.{rules, ◌≡◌, Some}
use Rattle.sc_monitor.proofs.Places.{taken, taken_within}
use Rattle.sc_monitor.specs.Verdict.{rule_for}
use Rattle.sc_monitor.proofs.judging.rule_for.Goals as goal

pub returns-clause-within : goal.returns-clause-within
returns-clause-within c =
    let is : Some c.from.result ≡ rule_for c.args.rules.now c.args.interfaces.now c.args.state c.args.event.now =
    search (rules, taken c.args.rules.now c.args.interfaces.now c.args.event.now c.args.state) in
    taken_within c.args.rules.now c.args.interfaces.now c.args.event.now c.args.state c.from.result is
