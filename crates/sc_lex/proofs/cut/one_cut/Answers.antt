use Rattle.sc_lex.proofs.Cuts.{one_cut}
use Rattle.sc_lex.proofs.cut.one_cut.Goals as goal

pub returns : goal.returns
returns c = λ bytes tokens others. one_cut bytes tokens others
