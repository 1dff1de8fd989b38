use Rattle.sc_types.proofs.Verdicts.{accepted_or_refused_of}
use Rattle.sc_types.proofs.laws.accepted_or_refused.Goals as goal

pub returns : goal.returns
returns c = accepted_or_refused_of c.one_reading.ensures c.read_or_refused.ensures
