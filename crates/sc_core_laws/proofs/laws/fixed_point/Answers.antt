use Rattle.sc_core_laws.proofs.ProgramLaws.{fixed_point}
use Rattle.sc_core_laws.proofs.laws.fixed_point.Goals as goal

pub returns : goal.returns
returns c = fixed_point
