use Rattle.sc_core_laws.proofs.ProgramLaws.{blame_is_passed}
use Rattle.sc_core_laws.proofs.laws.blame_is_passed.Goals as goal

pub returns : goal.returns
returns c = blame_is_passed
