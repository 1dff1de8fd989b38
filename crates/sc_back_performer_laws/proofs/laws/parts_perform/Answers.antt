use Rattle.sc_back_performer_laws.proofs.PartsPerform.{parts_perform}
use Rattle.sc_back_performer_laws.proofs.laws.parts_perform.Goals as goal

pub returns : goal.returns
returns c = parts_perform
