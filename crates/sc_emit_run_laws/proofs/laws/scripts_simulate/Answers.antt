use Rattle.sc_emit_run_laws.proofs.Whole.{scripts_simulate}
use Rattle.sc_emit_run_laws.proofs.laws.scripts_simulate.Goals as goal

pub returns : goal.returns
returns c = scripts_simulate
