use Rattle.sc_back_performer_laws.proofs.TypesKept.{types_hold}
use Rattle.sc_back_performer_laws.proofs.laws.types_hold.Goals as goal

pub returns : goal.returns
returns c = types_hold
