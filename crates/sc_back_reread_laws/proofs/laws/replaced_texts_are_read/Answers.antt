use Rattle.sc_back_reread_laws.proofs.Replaced.{replaced_texts}
use Rattle.sc_back_reread_laws.proofs.laws.replaced_texts_are_read.Goals as goal

-- src/laws.rt:14:1
pub returns : goal.returns
returns c = replaced_texts
