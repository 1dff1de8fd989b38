use Rattle.sc_lower.proofs.Whole.{keeps_meaning}
use Rattle.sc_lower.proofs.laws.keeps_meaning.Goals as goal

pub returns : goal.returns
returns c = keeps_meaning
