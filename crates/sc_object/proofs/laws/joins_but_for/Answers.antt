use Rattle.sc_object.proofs.Given.{joins_but_for}
use Rattle.sc_object.proofs.laws.joins_but_for.Goals as goal

pub returns : goal.returns
returns c = joins_but_for
