use Rattle.sc_back_performer_laws.proofs.Replaced.{rows_perform}
use Rattle.sc_back_performer_laws.proofs.laws.rows_perform.Goals as goal

pub returns : goal.returns
returns c = rows_perform
