use Rattle.sc_back_performer_laws.proofs.Recomposed.{recomposed_hold}
use Rattle.sc_back_performer_laws.proofs.laws.recomposed_hold.Goals as goal

pub returns : goal.returns
returns c = recomposed_hold
