use Rattle.sc_top.proofs.Accounts.{judgments_run_as_exec}
use Rattle.sc_top.proofs.laws.judgments_run_as_exec.Goals as goal

pub returns : goal.returns
returns c = judgments_run_as_exec c.one_policy.ensures
