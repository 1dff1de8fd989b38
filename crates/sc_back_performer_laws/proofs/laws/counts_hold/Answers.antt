use Rattle.sc_back_performer_laws.proofs.CountsKept.{counts_hold}
use Rattle.sc_back_performer_laws.proofs.laws.counts_hold.Goals as goal

pub returns : goal.returns
returns c = counts_hold
