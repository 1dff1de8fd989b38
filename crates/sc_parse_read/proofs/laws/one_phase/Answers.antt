use Rattle.sc_parse_read.proofs.Uniqueness.{one_phase}
use Rattle.sc_parse_read.proofs.laws.one_phase.Goals as goal

pub returns : goal.returns
returns c = one_phase c.one_refusal.ensures
