use Rattle.sc_lower.proofs.Programs.{keeps_rules}
use Rattle.sc_lower.proofs.laws.keeps_rules.Goals as goal

pub returns : goal.returns
returns c = keeps_rules
