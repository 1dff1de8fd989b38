use Rattle.sc_back_performer_laws.proofs.NamesKept.{names_hold}
use Rattle.sc_back_performer_laws.proofs.laws.names_hold.Goals as goal

pub returns : goal.returns
returns c = names_hold
