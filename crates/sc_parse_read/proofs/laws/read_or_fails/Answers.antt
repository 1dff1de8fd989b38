use Rattle.sc_parse_read.proofs.Existence.{read_or_fails}
use Rattle.sc_parse_read.proofs.laws.read_or_fails.Goals as goal

pub returns : goal.returns
returns c = read_or_fails
