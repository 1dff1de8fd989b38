use Rattle.sc_core_laws.proofs.ProgramLaws.{traces_are_legal}
use Rattle.sc_core_laws.proofs.laws.traces_are_legal.Goals as goal

pub returns : goal.returns
returns c = traces_are_legal
