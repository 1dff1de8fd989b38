use Rattle.sc_image.proofs.Whole.{one_image_each}
use Rattle.sc_image.proofs.laws.one_image.Goals as goal

pub returns : goal.returns
returns c = one_image_each
