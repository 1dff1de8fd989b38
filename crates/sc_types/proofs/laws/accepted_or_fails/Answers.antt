use Rattle.sc_types.proofs.Verdicts.{accepted_or_fails_of}
use Rattle.sc_types.proofs.laws.accepted_or_fails.Goals as goal

pub returns : goal.returns
returns c = accepted_or_fails_of c.read_or_fails.ensures
