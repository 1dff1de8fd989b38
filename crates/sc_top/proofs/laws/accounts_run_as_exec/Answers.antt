use Rattle.sc_top.proofs.Accounts.{accounts_run_as_exec}
use Rattle.sc_top.proofs.laws.accounts_run_as_exec.Goals as goal

pub returns : goal.returns
returns c = accounts_run_as_exec
