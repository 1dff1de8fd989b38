use Rattle.sc_core_laws.proofs.ProgramLaws.{blamed_stand_active}
use Rattle.sc_core_laws.proofs.laws.blamed_stand_active.Goals as goal

pub returns : goal.returns
returns c = blamed_stand_active
