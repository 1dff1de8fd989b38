use Rattle.sc_core_laws.proofs.Lines.{other_lines_agree}
use Rattle.sc_core_laws.proofs.laws.other_lines_agree.Goals as goal

pub returns : goal.returns
returns c = other_lines_agree
