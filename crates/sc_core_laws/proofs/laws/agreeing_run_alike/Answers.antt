use Rattle.sc_core_laws.proofs.Agreement.{agreeing_run_alike}
use Rattle.sc_core_laws.proofs.laws.agreeing_run_alike.Goals as goal

pub returns : goal.returns
returns c = agreeing_run_alike
