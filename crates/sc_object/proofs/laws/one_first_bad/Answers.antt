use Rattle.sc_object.proofs.Cuts.{one_first_bad}
use Rattle.sc_object.proofs.laws.one_first_bad.Goals as goal

pub returns : goal.returns
returns c = one_first_bad
