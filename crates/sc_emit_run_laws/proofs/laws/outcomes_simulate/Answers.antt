use Rattle.sc_emit_run_laws.proofs.Emits.{outcomes_simulate}
use Rattle.sc_emit_run_laws.proofs.laws.outcomes_simulate.Goals as goal

-- src/laws.rt:17:1
pub returns : goal.returns
returns c = outcomes_simulate
