use Rattle.sc_types.proofs.Verdicts.{one_program_of}
use Rattle.sc_types.proofs.laws.one_program.Goals as goal

pub returns : goal.returns
returns c = one_program_of c.one_reading.ensures
