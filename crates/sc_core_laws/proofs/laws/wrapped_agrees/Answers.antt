use Rattle.sc_core_laws.proofs.ProgramLaws.{wrapped_agrees}
use Rattle.sc_core_laws.proofs.laws.wrapped_agrees.Goals as goal

pub returns : goal.returns
returns c = wrapped_agrees
