use Rattle.sc_policy.proofs.Unique.{one_bad_line, read_or_bad}
use Rattle.sc_policy.proofs.laws.policy_or_bad.Goals as goal

pub returns-clause-either : goal.returns-clause-either
returns-clause-either c = read_or_bad

pub returns-clause-line : goal.returns-clause-line
returns-clause-line c = one_bad_line
