use Rattle.sc_lex.proofs.Cuts.{one_refusal}
use Rattle.sc_lex.proofs.cut.one_refusal.Goals as goal

pub returns : goal.returns
returns c = λ bytes line refusal other. one_refusal bytes line refusal other
