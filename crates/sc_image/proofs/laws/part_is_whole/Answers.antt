use Rattle.sc_image.proofs.Whole.{part_is_whole_each}
use Rattle.sc_image.proofs.laws.part_is_whole.Goals as goal

pub returns-clause-same : goal.returns-clause-same
returns-clause-same c = part_is_whole_each
