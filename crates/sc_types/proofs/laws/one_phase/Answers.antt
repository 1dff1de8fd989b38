use Rattle.sc_types.proofs.Verdicts.{one_phase_of}
use Rattle.sc_types.proofs.laws.one_phase.Goals as goal

pub returns : goal.returns
returns c = one_phase_of c.one_reading.ensures c.read_or_refused.ensures c.one_phase.ensures
