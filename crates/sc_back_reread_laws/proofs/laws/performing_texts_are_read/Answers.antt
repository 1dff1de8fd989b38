use Rattle.sc_back_reread_laws.proofs.Reading.{performing_texts}
use Rattle.sc_back_reread_laws.proofs.laws.performing_texts_are_read.Goals as goal

-- src/laws.rt:8:1
pub returns : goal.returns
returns c = performing_texts
