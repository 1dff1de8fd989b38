use Rattle.sc_emit_run_laws.proofs.Whole.{scripts_stop}
use Rattle.sc_emit_run_laws.proofs.laws.scripts_stop.Goals as goal

pub returns : goal.returns
returns c = scripts_stop
