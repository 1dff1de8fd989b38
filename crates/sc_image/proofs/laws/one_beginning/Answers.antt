use Rattle.sc_image.proofs.Whole.{begin_with_one}
use Rattle.sc_image.proofs.laws.one_beginning.Goals as goal

pub returns : goal.returns
returns c = begin_with_one
