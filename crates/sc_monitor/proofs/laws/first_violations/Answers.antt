use Rattle.sc_monitor.proofs.Verdicts.{is_replaced, is_violation}
use Rattle.sc_monitor.proofs.laws.first_violations.Goals as goal

pub returns-clause-violation : goal.returns-clause-violation
returns-clause-violation c = is_violation

pub returns-clause-replaced : goal.returns-clause-replaced
returns-clause-replaced c = is_replaced
