use Rattle.sc_core_laws.proofs.ProgramLaws.{blame_remains}
use Rattle.sc_core_laws.proofs.laws.blame_remains.Goals as goal

pub returns : goal.returns
returns c = blame_remains
