use Rattle.sc_core_laws.proofs.ProgramLaws.{wrapping_agrees}
use Rattle.sc_core_laws.proofs.laws.wrapping_agrees.Goals as goal

pub returns : goal.returns
returns c = wrapping_agrees
