use Rattle.sc_top.proofs.Answers.{image_within}
use Rattle.sc_top.proofs.laws.images_are_within.Goals as goal

pub returns : goal.returns
returns c = image_within
