use Rattle.sc_core_laws.proofs.ProgramLaws.{blamed_are_there}
use Rattle.sc_core_laws.proofs.laws.blamed_are_there.Goals as goal

pub returns : goal.returns
returns c = blamed_are_there
