use Rattle.sc_parse_read.proofs.Uniqueness.{read_or_refused}
use Rattle.sc_parse_read.proofs.laws.read_or_refused.Goals as goal

pub returns : goal.returns
returns c = read_or_refused c.one_cut.ensures
