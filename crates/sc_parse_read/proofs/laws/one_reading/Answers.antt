use Rattle.sc_parse_read.proofs.Uniqueness.{one_reading}
use Rattle.sc_parse_read.proofs.laws.one_reading.Goals as goal

pub returns : goal.returns
returns c = one_reading c.one_cut.ensures c.one_section.ensures
