use Rattle.sc_lower.proofs.Lines.{code_has_no_lines}
use Rattle.sc_lower.proofs.laws.code_has_no_lines.Goals as goal

pub returns : goal.returns
returns c = code_has_no_lines
