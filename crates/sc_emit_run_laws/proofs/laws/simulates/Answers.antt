use Rattle.sc_emit_run_laws.proofs.Whole.{simulates}
use Rattle.sc_emit_run_laws.proofs.laws.simulates.Goals as goal

-- src/laws.rt:8:1
pub returns : goal.returns
returns c = simulates
