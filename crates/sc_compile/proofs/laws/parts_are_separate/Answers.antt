use Rattle.sc_compile.proofs.Parts.{parts_are_separate}
use Rattle.sc_compile.proofs.laws.parts_are_separate.Goals as goal

pub returns : goal.returns
returns c = parts_are_separate
