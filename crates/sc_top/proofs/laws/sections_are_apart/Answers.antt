use Rattle.sc_top.proofs.Apart.{sections_are_apart}
use Rattle.sc_top.proofs.laws.sections_are_apart.Goals as goal

pub returns : goal.returns
returns c = sections_are_apart c.one_program.ensures
