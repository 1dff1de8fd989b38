use Rattle.sc_back_performer_laws.proofs.LegalRows.{legal_rows_fit}
use Rattle.sc_back_performer_laws.proofs.laws.legal_rows_fit.Goals as goal

pub returns : goal.returns
returns c = legal_rows_fit
