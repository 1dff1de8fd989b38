use Rattle.sc_core_laws.proofs.ProgramLaws.{programs_obey}
use Rattle.sc_core_laws.proofs.laws.programs_obey.Goals as goal

pub returns : goal.returns
returns c = programs_obey
