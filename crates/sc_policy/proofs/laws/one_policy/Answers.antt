use Rattle.sc_policy.proofs.Unique.{one_read}
use Rattle.sc_policy.proofs.laws.one_policy.Goals as goal

pub returns : goal.returns
returns c = one_read
